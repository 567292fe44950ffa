use lib.ListN.{set}
use mathlib.Core.List.{List}
use Rattle.market.specs.declared.book.Path.{Path}
use native.Mathlib.Omega.{arith}
use borrow.Author.Rules.{rules}
use mathlib.Core.Path.{◌≡◌, ◌∙◌, ap}
use Rattle.market.proofs.Filled.{filled, fill-next}
use Rattle.market.specs.Fresh.{fresh_path}
use Rattle.market.specs.Books.{no_path, no_route}
use Rattle.market.specs.Limits.{path_limit}
use Rattle.market.proofs.fresh.fresh_paths.Goals as goal

pub loop-i-init : goal.loop-i-init
loop-i-init c = (search rules, rw c.no_path-paths.ensures)

pub loop-i-preserved : goal.loop-i-preserved
loop-i-preserved c =
    let routes = c.args.routes in
    let at = c.loop-i in (
      search rules,
      ap (λ (l : List Path). set l at.i c.fresh_path-path.result) at.invariant.1
          ∙ ap (set (filled fresh_path routes path_limit no_path at.i) at.i) c.fresh_path-path.ensures
          ∙ fill-next fresh_path routes path_limit no_path at.i no_route (search rules) (search rules),
    )

pub returns : goal.returns
returns c =
    let all : c.loop-i.i ≡ c.args.count = omega arith in
    c.loop-i.invariant.1 ∙ ap (filled fresh_path c.args.routes path_limit no_path) all
