-- With no weight the pool is empty and every share is 0 (nothing). Otherwise no weight is above the column's total, so
-- the products fit, and each closure gives the rule's number of each weight (mapped). The whole cents are within the
-- pool, so what is left does not go below 0 (within), and the steps together are the rule (shared).
use borrow.Author.Rules.{rules}
use Prim.Native.Nat.{ℕ, ◌*◌, ◌≤◌, ◌<◌}
use mathlib.Core.Path.{◌≡◌, ap, ◌∙◌}
use mathlib.Core.List.{List, map}
use native.Mathlib.Omega.{arith}
use lib.ListN.{get_or, length}
use Rattle.std.proofs.lemmas.List.Sums.{get_or-le-sum_by}
use Rattle.std.proofs.lemmas.Simd.{map-map}
use Rattle.market.specs.Books.{cents, in_cents}
use Rattle.market.specs.Limits.{bidder_limit, pool_limit, column_limit}
use Rattle.market.specs.declared.units.Cents.{Cents}
use Rattle.pool_sharing.specs.Sharing.{total, floor_of, remainder_of}
use Rattle.pool_sharing.proofs.Arrays.{mapped, callable}
use Rattle.pool_sharing.proofs.Loops.{product-within}
use Rattle.pool_sharing.proofs.Pools.{nothing, within, shared}
use Rattle.pool_sharing.proofs.share_pool.Goals.{After-map-floors, After-map-remainders, After-shares_total-given}
use Rattle.pool_sharing.proofs.share_pool.Goals as goal

pub returns-then-whole-eq0 : goal.returns-then-whole-eq0
returns-then-whole-eq0 c =
    let a = c.args in
    let whole = c.column_total-whole in
    nothing a.pool.0 a.weights whole.result whole.ensures c.requires.weights_nonzero c.if-whole-eq0.true bidder_limit
    (search rules)

product-fits : (pool : ℕ) (weights : List ℕ) → pool ≤ pool_limit → total weights ≤ column_limit → (x k : ℕ) → k < length weights → x ≡ get_or weights k x → pool * x ≤ pool_limit * column_limit
product-fits pool weights small bound x k below is =
    product-within pool x small (omega (arith, get_or-le-sum_by (λ n. n) weights k x below, is))

pub map-floors-requires : goal.map-floors-requires
map-floors-requires c =
    let a = c.args in
    let may = product-fits a.pool.0 a.weights c.requires.pool_le_pool_limit c.requires.weights_bound in
    (omega arith, (omega arith, (omega arith, callable _ _ a.weights (λ x y q k. search rules) (λ x k below is. let product = may x k below is in search rules))))

pub map-remainders-requires : goal.map-remainders-requires
map-remainders-requires c =
    let a = c.args in
    let may = product-fits a.pool.0 a.weights c.requires.pool_le_pool_limit c.requires.weights_bound in
    (omega arith, (omega arith, (omega arith, callable _ _ a.weights (λ x y q k. search rules) (λ x k below is. let product = may x k below is in search rules))))

-- the whole cents are the rule's, and within the pool
module _ (p : After-map-floors) where
  floors-are : in_cents p.map-floors.result ≡ map (floor_of p.args.pool.0 p.column_total-whole.result) p.args.weights
  floors-are =
      let floor = floor_of p.args.pool.0 p.column_total-whole.result in
      ap in_cents
      (mapped _ _ (λ (w : ℕ). cents (floor w)) (λ x y q k. (search rules, search rules)) p.args.weights p.map-floors.result bidder_limit (search rules) 0
      p.map-floors.ensures.items)
      ∙ map-map (λ (x : Cents). x.0) (λ (w : ℕ). cents (floor w)) p.args.weights

  least : total (in_cents p.map-floors.result) ≤ p.args.pool.0
  least = within p.args.pool.0 p.args.weights _ p.column_total-whole.ensures _ floors-are p.if-whole-eq0.false

remainders-are : (p : After-map-remainders) → p.map-remainders.result ≡ map (remainder_of p.args.pool.0 p.column_total-whole.result) p.args.weights
remainders-are p =
    mapped _ _ (remainder_of p.args.pool.0 p.column_total-whole.result) (λ x y q k. (search rules, search rules)) p.args.weights p.map-remainders.result bidder_limit
    (search rules) 0 p.map-remainders.ensures.items

pub shares_total-given-requires : goal.shares_total-given-requires
shares_total-given-requires c = omega (arith, least (goal.at.shares_total-given-requires c).After-map-floors)

pub overflow_sub-pool : goal.overflow_sub-pool
overflow_sub-pool c =
    omega (arith, ap (λ (x : Cents). x.0) c.shares_total-given.ensures, least (goal.at.overflow_sub-pool c).After-map-floors)

pub hand_out-requires : goal.hand_out-requires
hand_out-requires c =
    omega (arith, ap (λ (x : Cents). x.0) c.shares_total-given.ensures, least (goal.at.hand_out-requires c).After-map-floors, c.requires.pool_le_pool_limit)

pub returns : goal.returns
returns c =
    let a = c.args in
    let at = goal.at.returns c in
    shared a.pool.0 a.weights _ c.column_total-whole.ensures _ (floors-are at.After-map-floors) _ _ _ (remainders-are at.After-map-remainders)
    (ap (λ (x : Cents). x.0) c.shares_total-given.ensures)
    c.hand_out.ensures
