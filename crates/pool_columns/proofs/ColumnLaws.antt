-- Laws about the columns: which row of their table holds, and what is known where none does.
use mathlib.Core.Path.{◌≡◌, sym, ◌∙◌, ap}
use mathlib.Core.Bool.{Bool, true, false, ◌&&◌}
use mathlib.Core.List.{List}
use Prim.Native.Nat.{ℕ, ◌+◌, ◌*◌, ◌/◌, ◌≤◌, ◌<◌}
use native.Mathlib.Nat.{mul-le-mul_left, div-le_of_le-mul, mul_comm}
use native.Mathlib.Omega.{arith}
use lib.Dec.{leb, eqb}
use borrow.Author.Tests.{leb-true, lt-ltb, eq-eqb, ne_eqb, eqb-false, not-false}
use Rattle.std.specs.Prelude.{Err}
use Rattle.market.proofs.Tables.{none-hold}
use Rattle.market.proofs.Tests.{left-true, right-true}
use Rattle.market.specs.Answers.{first_of, no_refusal}
use Rattle.market.specs.Limits.{column_limit}
use Rattle.market.specs.declared.answer.Refusal.{Refusal}
use Rattle.pool_sharing.specs.Sharing.{total}
use Rattle.pool_columns.specs.Pools.{all_charges, provincial_pool, export_pool, provincial_weights, export_weights, columns_within, unshared, column_refusals}
use Rattle.pool_columns.specs.declared.Columns.{Columns}

-- each column's total is within the limit
pub record Totals (cols : Columns) : Type 0 where
  pub provincial : total cols.provincial ≤ column_limit
  pub export : total cols.export ≤ column_limit
  pub meters : total cols.meters ≤ column_limit
  pub interties : total cols.interties ≤ column_limit

pub totals-within : (cols : Columns) → columns_within cols ≡ true → Totals cols
totals-within cols h =
    let provincial = leb (total cols.provincial) column_limit in
    let export = leb (total cols.export) column_limit in
    let meters = leb (total cols.meters) column_limit in
    let interties = leb (total cols.interties) column_limit in
    let h₂ = left-true (provincial && export && meters) interties h in
    let h₁ = left-true (provincial && export) meters h₂ in
    record {
      provincial = leb-true (total cols.provincial) column_limit (left-true provincial export h₁);
      export = leb-true (total cols.export) column_limit (right-true provincial export h₁);
      meters = leb-true (total cols.meters) column_limit (right-true (provincial && export) meters h₂);
      interties = leb-true (total cols.interties) column_limit (right-true (provincial && export && meters) interties h);
    }

-- the provincial pool is a part of the total
part-within : (d part rest : ℕ) → d * part / (part + rest) ≤ d
part-within d part rest =
    div-le_of_le-mul (part + rest)
    (omega (arith, mul-le-mul_left d (let le : part ≤ part + rest = omega arith in le), mul_comm d (part + rest)))

pub pool-within : (d : ℕ) (cols : Columns) → provincial_pool d cols ≤ d
pool-within d cols = part-within d (total cols.provincial) (total cols.export)

-- a pool that is not unshared has weights where it has cents
shared-out : (pool : ℕ) (weights : List ℕ) → unshared pool weights ≡ false → 0 < pool → 0 < total weights
shared-out pool weights h some =
    let t = eqb (total weights) 0 in
    let no : t ≡ false = sym (ap (λ (s : Bool). s && t) (lt-ltb 0 pool some)) ∙ h in
    above (total weights) (eqb-false (total weights) 0 no)
  where
    above : (n : ℕ) → (n ≡ 0 → ⊥) → 0 < n
    above n p = omega arith

-- the test of a pool, from a result computed with numbers that are equal to its own
pub unshared-is : (pool p : ℕ) (weights w : List ℕ) (r t : Bool) → r ≡ unshared p w → p ≡ pool → w ≡ weights → r ≡ t → unshared pool weights ≡ t
unshared-is pool p weights w r t is ps ws rt = rw (← ps, ← ws) (sym is ∙ rt)

-- the verdict of the columns' table, by the first row that holds
module _ (d : ℕ) (cols : Columns) where
  pub is-beyond : columns_within cols ≡ false → Err Refusal.Columns ≡ first_of (column_refusals d cols)
  is-beyond h = rw h

  module _ (within : columns_within cols ≡ true) where
    pub is-uncharged : all_charges cols ≡ 0 → Err Refusal.Columns ≡ first_of (column_refusals d cols)
    is-uncharged h = rw (within, eq-eqb (all_charges cols) 0 h)

    module _ (charged : all_charges cols ≡ 0 → ⊥) where
      pub provincial-unshared : unshared (provincial_pool d cols) (provincial_weights cols) ≡ true → Err Refusal.Columns ≡ first_of (column_refusals d cols)
      provincial-unshared h = rw (within, ne_eqb (all_charges cols) 0 charged, h)

      module _ (first : unshared (provincial_pool d cols) (provincial_weights cols) ≡ false) where
        pub export-unshared : unshared (export_pool d cols) (export_weights cols) ≡ true → Err Refusal.Columns ≡ first_of (column_refusals d cols)
        export-unshared h = rw (within, ne_eqb (all_charges cols) 0 charged, first, h)

        pub is_shared : unshared (export_pool d cols) (export_weights cols) ≡ false → no_refusal ≡ first_of (column_refusals d cols)
        is_shared h = rw (within, ne_eqb (all_charges cols) 0 charged, first, h)

-- what is known where no row holds: a total that can be shared
pub record Shareable (d : ℕ) (cols : Columns) : Type 0 where
  pub within : columns_within cols ≡ true
  pub charged : 0 < all_charges cols
  pub provincial : 0 < provincial_pool d cols → 0 < total (provincial_weights cols)
  pub export : 0 < export_pool d cols → 0 < total (export_weights cols)

pub shareable : (d : ℕ) (cols : Columns) → first_of (column_refusals d cols) ≡ no_refusal → Shareable d cols
shareable d cols h =
    let none = none-hold (column_refusals d cols) h in
    record {
      within = not-false (columns_within cols) none.0;
      charged = above (all_charges cols) (eqb-false (all_charges cols) 0 none.1.0);
      provincial = shared-out (provincial_pool d cols) (provincial_weights cols) none.1.1.0;
      export = shared-out (export_pool d cols) (export_weights cols) none.1.1.1.0;
    }
  where
    above : (n : ℕ) → (n ≡ 0 → ⊥) → 0 < n
    above n p = omega arith
