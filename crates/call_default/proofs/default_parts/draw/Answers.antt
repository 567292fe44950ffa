-- By cases on whether cash and applied cash cover the forfeit: the rule's subtraction stops at 0, so it is 0 where they
-- do, and the plain difference where they do not.
use mathlib.Core.Path.{◌≡◌, ap}
use Prim.Native.Nat.{◌-◌}
use native.Mathlib.Omega.{arith}
use Rattle.market.specs.Books.{cents, held_of}
use Rattle.market.specs.declared.units.Cents.{Cents}
use Rattle.call_default.specs.Default.{forfeit_of, draw_of}
use Rattle.call_default.proofs.default_parts.draw.Goals as goal

pub returns-then-lost-held : goal.returns-then-lost-held
returns-then-lost-held c =
    let x = c.args.bidder in
    let lost : c.forfeit-lost.result.0 ≡ forfeit_of x = ap (λ (v : Cents). v.0) c.forfeit-lost.ensures in
    let same : 0 ≡ draw_of x = omega arith in
    ap cents same

pub returns : goal.returns
returns c =
    let x = c.args.bidder in
    let lost : c.forfeit-lost.result.0 ≡ forfeit_of x = ap (λ (v : Cents). v.0) c.forfeit-lost.ensures in
    let same : c.forfeit-lost.result.0 - held_of x ≡ draw_of x = omega arith in
    ap cents same
