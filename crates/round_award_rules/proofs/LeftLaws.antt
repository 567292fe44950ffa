-- Laws about what is left of each path when some of one path is taken.
use mathlib.Core.Path.{◌≡◌, refl, sym, ◌∙◌, ap}
use mathlib.Core.Bool.{Bool, true, false, cond}
use mathlib.Core.List.{List, [], ◌∷◌}
use Prim.Native.Nat.{ℕ, zero, suc, ◌+◌, ◌-◌, ◌≤◌}
use native.Mathlib.Omega.{arith}
use lib.Dec.{eqb}
use lib.ListN.{get_or, set}
use lib.Seq.{get_or-set_other}
use borrow.Author.Tests.{eqb-true, eqb-false}

-- the sum of what is left
abbrev pub total : List ℕ → ℕ
total [] = 0
total (n ∷ ns) = n + total ns

-- what is left when `taken` MW are taken of one path
abbrev pub less : List ℕ → ℕ → ℕ → List ℕ
less left path taken = set left path (get_or left path 0 - taken)

-- that path has `taken` MW less; past the end of the list nothing is left and nothing can be taken
pub less-there : (left : List ℕ) (path taken : ℕ) → get_or (less left path taken) path 0 ≡ get_or left path 0 - taken
less-there [] path taken = let none : 0 ≡ 0 - taken = omega arith in none
less-there (n ∷ left) zero taken = refl
less-there (n ∷ left) (suc path) taken = less-there left path taken

-- and every other path has what it had
pub less_other : (left : List ℕ) (path taken other : ℕ) → (other ≡ path → ⊥) → get_or (less left path taken) other 0 ≡ get_or left other 0
less_other left path taken other ne = get_or-set_other left path other (get_or left path 0 - taken) 0 ne

-- what a path has left and what was taken of it make up what it had
pub less-at : (left : List ℕ) (path taken other : ℕ) → taken ≤ get_or left path 0 → cond (eqb path other) taken 0 + get_or (less left path taken) other 0 ≡ get_or left other 0
less-at left path taken other within = go (eqb path other) refl
  where
    go : (t : Bool) → eqb path other ≡ t → cond t taken 0 + get_or (less left path taken) other 0 ≡ get_or left other 0
    go true e =
        let same : other ≡ path = sym (eqb-true path other e) in
        let there : get_or (less left path taken) other 0 ≡ get_or left path 0 - taken = ap (λ (i : ℕ). get_or (less left path taken) i 0) same ∙ less-there left path taken in
        omega (arith, there, ap (λ (i : ℕ). get_or left i 0) same)
    go false e = omega (arith, less_other left path taken other (λ p. eqb-false path other e (sym p)))

-- the sum falls by what was taken
pub less-total : (left : List ℕ) (path taken : ℕ) → taken ≤ get_or left path 0 → total (less left path taken) + taken ≡ total left
less-total [] path taken within = omega arith
less-total (n ∷ left) zero taken within = omega arith
less-total (n ∷ left) (suc path) taken within = omega (arith, less-total left path taken within)

-- one list has at most as much as another of every path
abbrev pub AtMost : List ℕ → List ℕ → Type 0
AtMost left more = (path : ℕ) → get_or left path 0 ≤ get_or more path 0

pub total-most : (left more : List ℕ) → AtMost left more → total left ≤ total more
total-most [] more h = omega arith
total-most (n ∷ left) [] h =
    let first : n ≤ 0 = h 0 in
    let rest : total left ≤ 0 = total-most left [] (λ path. h (suc path)) in
    omega arith
total-most (n ∷ left) (m ∷ more) h =
    let first : n ≤ m = h 0 in
    let rest : total left ≤ total more = total-most left more (λ path. h (suc path)) in
    omega arith
