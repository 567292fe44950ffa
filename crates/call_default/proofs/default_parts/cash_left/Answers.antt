-- By cases on whether the forfeit takes all cash and applied cash: the rule's subtraction stops at 0, so it is 0 where
-- it does, and the plain difference where it does not.
use mathlib.Core.Path.{◌≡◌, ap}
use Prim.Native.Nat.{◌-◌}
use native.Mathlib.Omega.{arith}
use Rattle.market.specs.Books.{cents, held_of}
use Rattle.market.specs.declared.units.Cents.{Cents}
use Rattle.call_default.specs.Default.{forfeit_of}
use Rattle.call_default.proofs.default_parts.cash_left.Goals as goal

pub returns-then-held-lost : goal.returns-then-held-lost
returns-then-held-lost c =
    let x = c.args.bidder in
    let lost : c.forfeit-lost.result.0 ≡ forfeit_of x = ap (λ (v : Cents). v.0) c.forfeit-lost.ensures in
    let same : 0 ≡ held_of x - forfeit_of x = omega arith in
    ap cents same

pub returns : goal.returns
returns c =
    let x = c.args.bidder in
    let lost : c.forfeit-lost.result.0 ≡ forfeit_of x = ap (λ (v : Cents). v.0) c.forfeit-lost.ensures in
    let same : held_of x - c.forfeit-lost.result.0 ≡ held_of x - forfeit_of x = omega arith in
    ap cents same
