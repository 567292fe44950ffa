-- No share is above its list's total, so the sums fit (callable-at). Each place holds the sum of the two shares, so the
-- array is the rule's list (all-together).
use borrow.Author.Rules.{rules}
use Prim.Native.Nat.{ℕ, ◌+◌, ◌<◌, ◌≤◌}
use mathlib.Core.Path.{ap}
use native.Mathlib.Omega.{arith}
use lib.ListN.{length, get_or}
use Rattle.market.proofs.KindLaws.{cents-at, numbers-long}
use Rattle.market.specs.Books.{cents, in_cents}
use Rattle.market.specs.Limits.{bidder_limit, pool_limit}
use Rattle.market.specs.declared.units.Cents.{Cents}
use Rattle.pool_sharing.proofs.Arrays.{made-at, callable-at}
use Rattle.pool_sharing.proofs.Totals.{total-at}
use Rattle.pool_columns.proofs.Together.{all-together}
use Rattle.pool_columns.proofs.add_shares.Goals as goal

pub from_fn-requires : goal.from_fn-requires
from_fn-requires c =
    let x = c.args.first in
    let y = c.args.second in (
      omega arith,
      callable-at _ _ (λ i z q k. search rules) bidder_limit (λ i below.
          let fits : (get_or x i (cents 0)).0 + (get_or y i (cents 0)).0 ≤ pool_limit + pool_limit =
          omega (arith, c.requires.first_bound, c.requires.second_bound, total-at (in_cents x) i, total-at (in_cents y) i, cents-at x i, cents-at y i)
          in
          search rules),
    )

pub returns : goal.returns
returns c =
    let x = c.args.first in
    let y = c.args.second in
    let made = c.from_fn.ensures.items in
    let sums = numbers-long c.from_fn.result bidder_limit made.long in
    let first = numbers-long x bidder_limit (search rules) in
    let second = numbers-long y bidder_limit (search rules) in
    let each =
    made-at _ _ (λ (i : ℕ). cents ((get_or x i (cents 0)).0 + (get_or y i (cents 0)).0)) (λ i z q k. (search rules, search rules)) _ bidder_limit made
    in
    all-together (in_cents x) (in_cents y) (in_cents c.from_fn.result) (omega (arith, first, second)) (omega (arith, sums, first))
    (λ (j : ℕ) (p : j < length (in_cents c.from_fn.result)).
    omega (arith, cents-at c.from_fn.result j, ap (λ (z : Cents). z.0) (each j (cents 0) (omega (arith, sums))), cents-at x j, cents-at y j))
