-- Laws about the first largest number of a list.
use mathlib.Core.Path.{◌≡◌, refl}
use mathlib.Core.Bool.{Bool, true, false, cond}
use mathlib.Core.List.{List, [], ◌∷◌}
use Prim.Native.Nat.{ℕ, zero, suc, max, ◌≤◌, ◌<◌}
use native.Mathlib.Omega.{arith}
use lib.Dec.{leb, ltb}
use lib.ListN.{length, get_or}
use borrow.Author.Tests.{leb-true, leb-false, ltb-true, ltb-false}
use Rattle.std.specs.List.{IsFirstMaxByKey}
use Rattle.pool_sharing.proofs.Totals.{total-cons}
use Rattle.pool_sharing.specs.Sharing.{total, biggest, largest}

-- no element is above the largest
pub at_most : (l : List ℕ) (i : ℕ) → get_or l i 0 ≤ biggest l
at_most [] i = omega arith
at_most (x ∷ l) zero = omega arith
at_most (x ∷ l) (suc i) = omega (arith, at_most l i)

-- if the largest is 0, all are 0
pub all-zero : (l : List ℕ) → biggest l ≡ 0 → total l ≡ 0
all-zero [] h = refl
all-zero (x ∷ l) h = omega (arith, total-cons x l, all-zero l (omega arith))

-- the head `x` of a list, compared with the largest of the rest, which is `m` at the place `k`
module _ (x m k : ℕ) (l : List ℕ) where
  pick_at : get_or l k 0 ≡ m → (t : Bool) → leb m x ≡ t → get_or (x ∷ l) (cond t 0 (suc k)) 0 ≡ max x m
  pick_at h true e = let le : m ≤ x = leb-true m x e in omega arith
  pick_at h false e = let lt : x < m = leb-false m x e in omega arith

  pick-within : (t : Bool) → leb m x ≡ t → (0 < m → k < length l) → cond t 0 (suc k) < suc (length l)
  pick-within true e h = omega arith
  pick-within false e h = let lt : x < m = leb-false m x e in omega (arith, h (omega arith))

  pick_first : ((j : ℕ) → j < k → get_or l j 0 < m) → (j : ℕ) (t : Bool) → leb m x ≡ t → j < cond t 0 (suc k) → get_or (x ∷ l) j 0 < max x m
  pick_first h j true e p = absurd (omega arith)
  pick_first h zero false e p = let lt : x < m = leb-false m x e in omega arith
  pick_first h (suc j) false e p = omega (arith, h j (omega arith))

-- the place of the largest holds it
pub largest-at : (l : List ℕ) → get_or l (largest l) 0 ≡ biggest l
largest-at [] = refl
largest-at (x ∷ l) = pick_at x (biggest l) (largest l) l (largest-at l) (leb (biggest l) x) refl

-- the place of the largest is within the list
pub largest-within : (l : List ℕ) → 0 < biggest l → largest l < length l
largest-within [] h = h
largest-within (x ∷ l) h =
    pick-within x (biggest l) (largest l) l (leb (biggest l) x) refl (λ (p : 0 < biggest l). largest-within l p)

-- and each element before it is smaller
pub largest-first : (l : List ℕ) (j : ℕ) → j < largest l → get_or l j 0 < biggest l
largest-first [] j h = absurd (none h)
  where
    none : j < 0 → ⊥
    none p = omega arith
largest-first (x ∷ l) j h =
    pick_first x (biggest l) (largest l) l (λ (i : ℕ) (p : i < largest l). largest-first l i p) j (leb (biggest l) x) refl h

-- a place whose element no other is above, and all before it are below, is the place of the first largest
module _ (l : List ℕ) (k : ℕ) (most : biggest l ≤ get_or l k 0) (first : (j : ℕ) → j < k → get_or l j 0 < get_or l k 0) where
  not-before : k < largest l → ⊥
  not-before h = omega (arith, largest-first l k h)

  not_after : largest l < k → ⊥
  not_after h = omega (arith, first (largest l) h, largest-at l, at_most l k)

  pub is-largest : k ≡ largest l
  is-largest = go (ltb k (largest l)) (ltb (largest l) k) refl refl
    where
      go : (s t : Bool) → ltb k (largest l) ≡ s → ltb (largest l) k ≡ t → k ≡ largest l
      go true t p q = absurd (not-before (ltb-true k (largest l) p))
      go false true p q = absurd (not_after (ltb-true (largest l) k q))
      go false false p q = omega (arith, ltb-false k (largest l) p, ltb-false (largest l) k q)

-- the largest is at most any number that no element is above
pub biggest-least : (l : List ℕ) (m : ℕ) → ((j : ℕ) → j < length l → get_or l j 0 ≤ m) → biggest l ≤ m
biggest-least [] m h = omega arith
biggest-least (x ∷ l) m h =
    omega (arith, h 0 (omega arith), biggest-least l m (λ (j : ℕ) (p : j < length l). h (suc j) (omega arith)))

-- so the first largest of all elements is at that place
pub best-of-all : (l : List ℕ) (i k : ℕ) → length l ≤ i → IsFirstMaxByKey (λ x. x) l i k → k ≡ largest l
best-of-all l i k all best =
    is-largest l k (biggest-least l (get_or l k 0) (λ (j : ℕ) (p : j < length l). best.1 j 0 (omega arith))) (λ (j : ℕ) (p : j < k). best.2 j 0 p)
