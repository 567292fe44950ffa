-- Laws about the weights of a pool.
use mathlib.Core.Path.{◌≡◌, refl, sym, ◌∙◌, ap}
use mathlib.Core.Bool.{Bool, cond}
use mathlib.Core.List.{List, [], ◌∷◌}
use Prim.Native.Nat.{ℕ, zero, suc, ◌≤◌, ◌<◌}
use native.Mathlib.Omega.{arith}
use borrow.Author.Tests.{lt-ltb}
use lib.Dec.{ltb}
use lib.ListN.{length, get_or}
use lib.Seq.{ext_get_or}
use Rattle.market.proofs.Tests.{kept-at-most}
use Rattle.pool_sharing.proofs.Totals.{total-at, total-cons}
use Rattle.pool_sharing.specs.Sharing.{total, weight_of, eligible}

-- each participant has a weight
pub eligible-length : (cs es : List ℕ) → length cs ≡ length es → length (eligible cs es) ≡ length cs
eligible-length [] es h = refl
eligible-length (c ∷ cs) [] h = absurd (none h)
  where
    none : suc (length cs) ≡ 0 → ⊥
    none p = omega arith
eligible-length (c ∷ cs) (e ∷ es) h = ap suc (eligible-length cs es (omega arith))

pub eligible-at : (cs es : List ℕ) (j : ℕ) → length cs ≡ length es → get_or (eligible cs es) j 0 ≡ weight_of (get_or cs j 0) (get_or es j 0)
eligible-at [] es j h = refl
eligible-at (c ∷ cs) [] j h = absurd (none h)
  where
    none : suc (length cs) ≡ 0 → ⊥
    none p = omega arith
eligible-at (c ∷ cs) (e ∷ es) zero h = refl
eligible-at (c ∷ cs) (e ∷ es) (suc j) h = eligible-at cs es j (omega arith)

-- a list that has the weight of each participant is the list of the weights
pub all-eligible : (cs es ws : List ℕ) → length cs ≡ length es → length ws ≡ length cs → ((j : ℕ) → j < length ws → get_or ws j 0 ≡ weight_of (get_or cs j 0) (get_or es j 0)) → ws ≡ eligible cs es
all-eligible cs es ws p q h =
    ext_get_or 0 ws (eligible cs es) (q ∙ sym (eligible-length cs es p))
    (λ (j : ℕ) (b : j < length ws). h j b ∙ sym (eligible-at cs es j p))

-- the weights together are at most the energy
pub eligible-total : (cs es : List ℕ) → total (eligible cs es) ≤ total es
eligible-total [] es = omega arith
eligible-total (c ∷ cs) [] = omega arith
eligible-total (c ∷ cs) (e ∷ es) =
    omega (arith, total-cons (weight_of c e) (eligible cs es), total-cons e es, kept-at-most (ltb 0 c) e, eligible-total cs es)

-- if one participant has a charge and energy, the weights are not all 0
pub some-eligible : (cs es : List ℕ) (i : ℕ) → length cs ≡ length es → 0 < get_or cs i 0 → 0 < get_or es i 0 → 0 < total (eligible cs es)
some-eligible cs es i alike charge energy =
    let at : get_or (eligible cs es) i 0 ≡ get_or es i 0 = eligible-at cs es i alike ∙ ap (λ (t : Bool). cond t (get_or es i 0) 0) (lt-ltb 0 (get_or cs i 0) charge) in
    omega (arith, total-at (eligible cs es) i)
