use borrow.Author.Rules.{rules}
use mathlib.Core.Path.{◌∙◌, ap}
use mathlib.Core.List.{List}
use Prim.Native.Nat.{ℕ}
use lib.ListN.{set}
use lib.Seq.{get_or-take}
use Rattle.market.proofs.Filled.{filled, fill-next}
use Rattle.market.proofs.KindLaws.{map-set}
use Rattle.market.specs.Books.{no_path}
use Rattle.market.specs.Limits.{path_limit}
use Rattle.market.specs.declared.book.Path.{Path}
use Rattle.market.specs.declared.units.Megawatts.{Megawatts}
use Rattle.call_open_offers.specs.Offers.{round_offer}
use Rattle.round_paths.proofs.offered_by.Goals as goal

pub loop-i-preserved : goal.loop-i-preserved
loop-i-preserved c =
    let a = c.args in
    let at = c.loop-i in
    let f = round_offer a.kind a.round in (
      search rules,
      map-set (λ x. x.0) at.offered at.i c.offered_in.result
          ∙ ap (λ (l : List ℕ). set l at.i c.offered_in.result.0) at.invariant.1
          ∙ ap (set (filled f a.paths path_limit 0 at.i) at.i) (ap (λ (m : Megawatts). m.0) c.offered_in.ensures)
          ∙ ap (λ (p : Path). set (filled f a.paths path_limit 0 at.i) at.i (f p)) (get_or-take a.count a.paths at.i no_path (search rules))
          ∙ fill-next f a.paths path_limit 0 at.i no_path (search rules) (search rules),
    )
