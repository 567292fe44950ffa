use native.Mathlib.Omega.{arith}
use mathlib.Core.Path.{ap₂, ◌≡◌, sym, ◌∙◌, ap, subst}
use mathlib.Core.Bool.{Bool}
use lib.Dec.{eqb}
use lib.ListN.{take, set, replicate, length, drop}
use Rattle.market.specs.Books.{with_front}
use Rattle.journal_fresh_line.specs.FreshLines.{routes_used, routes_said, route_field_used, route_value, no_slots, fresh_said}
use Rattle.journal_fresh_line.specs.declared.FreshLine.{FreshLine}
use Rattle.market.specs.Limits.{path_limit}
use Rattle.market.specs.declared.book.Route.{Route}
use Rattle.journal_fields.specs.declared.Found.{Found}
use mathlib.Core.List.{List}
use Prim.Native.Nat.{ℕ, ◌+◌}
use Rattle.journal_fresh_line.proofs.SlotLaws.{SlotsTo, slots-none, slots-count, slots-bytes, slots-list, slots_set, slots-past}
use Rattle.journal_fresh_line.proofs.fresh_said.Goals as goal
use Rattle.journal_fresh_line.proofs.fresh_said.Goals.{then-count-lt-PATHS, else-count-lt-PATHS}

pub loop-next-init : goal.loop-next-init
loop-next-init c =
    let text = c.args.text.now in (
      subst (λ (r : Route). SlotsTo route_field_used route_value text no_slots 0 0 (replicate path_limit r)) (sym c.no_route-routes.ensures) (slots-none route_field_used route_value text no_slots),
      c.route_at-next.ensures.route,
      c.route_at-next.ensures.fits,
    )

pub loop-next-preserved : goal.loop-next-preserved
loop-next-preserved c =
    let text = c.args.text.now in
    let to = c.loop-next in
    let e = to.invariant.1 in
    let used = ap (λ (f : Found Route). f.used) e in
    let now : List Route → Type 0 = λ (l : List Route). SlotsTo route_field_used route_value text no_slots (to.count + 1) (to.place + to.next.used) l in (
      elim c.if-count-lt-PATHS.branch [
        | then-count-lt-PATHS w ↦
            subst now (sym w.routes-is)
            (subst (λ (f : Found Route). SlotsTo route_field_used route_value text no_slots (to.count + 1) (to.place + f.used) (set to.routes to.count f.value)) (sym e)
            (slots_set route_field_used route_value text no_slots to.count to.place to.routes to.invariant.0 (λ z. c.loop-next-test.true (used ∙ z))
            (omega (arith, to.invariant.2, used)) w.if-count-lt-PATHS.true))
        | else-count-lt-PATHS w ↦
            subst now (sym w.routes-is)
            (subst (λ (f : Found Route). SlotsTo route_field_used route_value text no_slots (to.count + 1) (to.place + f.used) to.routes) (sym e)
            (slots-past route_field_used route_value text no_slots to.count to.place to.routes to.invariant.0 (λ z. c.loop-next-test.true (used ∙ z))
            (omega (arith, to.invariant.2, used)) w.if-count-lt-PATHS.false))
      ],
      c.route_at-next-in-loop-next.ensures.route,
      c.route_at-next-in-loop-next.ensures.fits,
    )

abbrev said : Bool → ℕ → List Route → FreshLine
said present count routes = record { present = present; count = count; routes = routes }

made :
    (text :
    List ℕ) {place count : ℕ} {routes : List Route} → place ≡ routes_used text → count ≡ length (routes_said text) → routes ≡ with_front (take path_limit (routes_said text)) no_slots
    → said (eqb place (length text)) count routes ≡ fresh_said text
unfolding fresh_said
made text {place} {count} {routes} p q r =
    ap (λ (n : ℕ). said (eqb n (length text)) count routes) p
    ∙ ap₂ (said (eqb (routes_used text) (length text))) q r

pub returns : goal.returns
returns c =
    let text = c.args.text.now in
    let to = c.loop-next in
    let none : route_field_used (drop to.place text) ≡ 0 = omega (arith, ap (λ (f : Found Route). f.used) to.invariant.1) in
    made text (slots-bytes route_field_used route_value text no_slots to.count to.place to.routes to.invariant.0 none)
    (slots-count route_field_used route_value text no_slots to.count to.place to.routes to.invariant.0 none)
    (slots-list route_field_used route_value text no_slots to.count to.place to.routes to.invariant.0 none)
