use borrow.Author.Rules.{rules}
use mathlib.Core.Path.{ap}
use lib.ListN.{replicate}
use Rattle.market.specs.Limits.{path_limit}
use Rattle.market.specs.declared.book.Route.{Route}
use Rattle.sheet_form.specs.Slots.{no_path_line}
use Rattle.market.specs.Books.{no_route}
use Rattle.sheet_calls.specs.Calls.{route_of}
use Rattle.sheet_calls.proofs.SlotLaws.{none_filled, one-filled, every-filled}
use Rattle.sheet_calls.proofs.slots.routes.Goals as goal

pub loop-i-init : goal.loop-i-init
loop-i-init c =
    let lines = c.args.lines in
    none_filled route_of lines path_limit no_route _ (ap (λ (r : Route). replicate path_limit r) c.no_route-routes.ensures)

pub loop-i-preserved : goal.loop-i-preserved
loop-i-preserved c =
    let lines = c.args.lines in
    let at = c.loop-i in
    one-filled route_of lines path_limit no_route at.routes at.i at.invariant (search rules)
    no_path_line c.route_of-route.result (search rules) c.route_of-route.ensures

pub returns : goal.returns
returns c =
    let lines = c.args.lines in
    let at = c.loop-i in
    every-filled route_of lines path_limit no_route at.routes at.i at.invariant (search rules) (search rules)
