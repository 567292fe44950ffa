-- Each place holds the weight of its participant, so the array is the rule's list (all-eligible).
use borrow.Author.Rules.{rules}
use Prim.Native.Nat.{ℕ, ◌<◌}
use mathlib.Core.Path.{◌≡◌}
use lib.ListN.{length, get_or}
use native.Mathlib.Omega.{arith}
use Rattle.market.specs.Limits.{bidder_limit}
use Rattle.pool_sharing.proofs.Arrays.{made-at}
use Rattle.pool_sharing.proofs.Eligible.{all-eligible}
use Rattle.pool_sharing.specs.Sharing.{weight_of}
use Rattle.pool_sharing.proofs.eligible_energy.Goals as goal

pub returns : goal.returns
returns c =
    let a = c.args in
    let made = c.from_fn.ensures.items in
    let long : length a.charges ≡ bidder_limit = search rules in
    let alike : length a.energy ≡ bidder_limit = search rules in
    all-eligible a.charges a.energy c.from_fn.result (omega arith) (omega (arith, made.long))
    (λ (j : ℕ) (p : j < length c.from_fn.result).
    made-at _ _ (λ (i : ℕ). weight_of (get_or a.charges i 0) (get_or a.energy i 0)) (λ i x q k. (search rules, search rules)) _ bidder_limit made j 0
    (omega (arith, made.long, p)))
