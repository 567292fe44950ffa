-- By cases on which is smaller, all that the bidder has or a tenth of its value: each branch is that case of the rule's
-- minimum. The bidder's bounds keep the sums within a word.
use mathlib.Core.Path.{◌≡◌, ap}
use Prim.Native.Nat.{◌+◌, ◌/◌}
use native.Mathlib.Omega.{arith}
use Rattle.market.specs.Books.{cents, value_of, held_of}
use Rattle.market.specs.declared.units.Cents.{Cents}
use Rattle.call_default.specs.Default.{forfeit_of}
use Rattle.call_default.proofs.default_parts.forfeit.Goals as goal

pub returns-then-most-tenth : goal.returns-then-most-tenth
returns-then-most-tenth c =
    let x = c.args.bidder in
    let value : c.value-value.result.0 ≡ value_of x = ap (λ (v : Cents). v.0) c.value-value.ensures in
    let most : held_of x + x.letter.0 ≡ forfeit_of x = omega arith in
    ap cents most

pub returns : goal.returns
returns c =
    let x = c.args.bidder in
    let value : c.value-value.result.0 ≡ value_of x = ap (λ (v : Cents). v.0) c.value-value.ensures in
    let tenth : c.value-value.result.0 / 10 ≡ forfeit_of x = omega arith in
    ap cents tenth
