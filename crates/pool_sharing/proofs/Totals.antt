-- Laws about the sum of a column.
use mathlib.Core.Path.{◌≡◌}
use mathlib.Core.List.{List, [], ◌∷◌}
use Prim.Native.Nat.{ℕ, zero, suc, ◌+◌, ◌≤◌, ◌<◌}
use native.Mathlib.Omega.{arith}
use lib.ListN.{length, get_or, set}
use Rattle.std.proofs.lemmas.List.Sums.{sum_by-cons, sum_by-set}
use Rattle.pool_sharing.specs.Sharing.{total}

-- the sum of a list with one more number in front
pub total-cons : (x : ℕ) (l : List ℕ) → total (x ∷ l) ≡ x + total l
total-cons x l = sum_by-cons (λ n. n) x l

-- no element is above the sum
pub total-at : (l : List ℕ) (i : ℕ) → get_or l i 0 ≤ total l
total-at [] i = omega arith
total-at (x ∷ l) zero = omega (arith, total-cons x l)
total-at (x ∷ l) (suc i) = omega (arith, total-cons x l, total-at l i)

-- replacing the number at a place changes the sum by the difference
pub total-set : (l : List ℕ) (i v : ℕ) → i < length l → total (set l i v) + get_or l i 0 ≡ total l + v
total-set l i v h = sum_by-set (λ n. n) l i v 0 h
