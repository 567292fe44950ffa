-- Laws about two lists of cents added, participant by participant.
use mathlib.Core.Path.{◌≡◌, refl, sym, ◌∙◌, ap}
use mathlib.Core.List.{List, [], ◌∷◌}
use Prim.Native.Nat.{ℕ, zero, suc, ◌+◌, ◌<◌}
use native.Mathlib.Omega.{arith}
use lib.ListN.{length, get_or}
use lib.Seq.{ext_get_or}
use Rattle.pool_sharing.proofs.Totals.{total-cons}
use Rattle.pool_sharing.specs.Sharing.{total}
use Rattle.pool_columns.specs.Pools.{together}

-- two lists of the same length, added: the length and each element
no-shorter : (n : ℕ) → suc n ≡ 0 → ⊥
no-shorter n p = omega arith

pub together-length : (xs ys : List ℕ) → length xs ≡ length ys → length (together xs ys) ≡ length xs
together-length [] ys h = refl
together-length (x ∷ xs) [] h = absurd (no-shorter (length xs) h)
together-length (x ∷ xs) (y ∷ ys) h = ap suc (together-length xs ys (omega arith))

together_at : (xs ys : List ℕ) (j : ℕ) → length xs ≡ length ys → get_or (together xs ys) j 0 ≡ get_or xs j 0 + get_or ys j 0
together_at [] [] j h = omega arith
together_at [] (y ∷ ys) j h = absurd (no-shorter (length ys) (sym h))
together_at (x ∷ xs) [] j h = absurd (no-shorter (length xs) h)
together_at (x ∷ xs) (y ∷ ys) zero h = refl
together_at (x ∷ xs) (y ∷ ys) (suc j) h = together_at xs ys j (omega arith)

-- a list that has the sum at each place is the two lists added
pub all-together : (xs ys zs : List ℕ) → length xs ≡ length ys → length zs ≡ length xs → ((j : ℕ) → j < length zs → get_or zs j 0 ≡ get_or xs j 0 + get_or ys j 0) → zs ≡ together xs ys
all-together xs ys zs p q h =
    ext_get_or 0 zs (together xs ys) (q ∙ sym (together-length xs ys p))
    (λ (j : ℕ) (b : j < length zs). h j b ∙ sym (together_at xs ys j p))

-- and its total is the sum of the two totals
pub together-total : (xs ys : List ℕ) → length xs ≡ length ys → total (together xs ys) ≡ total xs + total ys
together-total [] [] h = omega arith
together-total [] (y ∷ ys) h = absurd (no-shorter (length ys) (sym h))
together-total (x ∷ xs) [] h = absurd (no-shorter (length xs) h)
together-total (x ∷ xs) (y ∷ ys) h =
    omega (arith, total-cons (x + y) (together xs ys), total-cons x xs, total-cons y ys, together-total xs ys (omega arith))
