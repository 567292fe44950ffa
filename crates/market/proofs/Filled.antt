-- A list that a loop fills from the front: the images of the first elements of another list, and a blank in each place after.
use mathlib.Core.Path.{◌≡◌, refl, sym, ◌∙◌, ap, ap₂}
use mathlib.Core.List.{List, [], ◌∷◌, ◌++◌, map, append_assoc, append-nil}
use Prim.Native.Nat.{ℕ, zero, suc, ◌+◌, ◌-◌, ◌≤◌, ◌<◌}
use native.Mathlib.Numerals.{add-one}
use native.Mathlib.Omega.{arith}
use lib.ListN.{length, get_or, take, set, replicate, length-map}
use lib.Seq.{length-take-le, take_all, take-suc, set_at}

-- the images of a list with one more element
pub map_snoc : {A B : Type 0} (f : A → B) (l : List A) (a : A) → map f (l ++ (a ∷ [])) ≡ map f l ++ (f a ∷ [])
map_snoc f [] a = refl
map_snoc f (x ∷ l) a = ap (f x ∷◌) (map_snoc f l a)

-- a list of zeros has 0 everywhere
abbrev pub zeros : ℕ → List ℕ
zeros n = replicate n 0

pub zeros-at : (n k : ℕ) → get_or (zeros n) k 0 ≡ 0
zeros-at zero k = refl
zeros-at (suc n) zero = refl
zeros-at (suc n) (suc k) = zeros-at n k

-- storing the next element after the first ones, where blanks fill the list up to length `n`
pub fill-snoc : {A : Type 0} (front : List A) (n k : ℕ) (blank x : A) → length front ≡ k → k < n → set (front ++ replicate (n - k) blank) k x ≡ (front ++ (x ∷ [])) ++ replicate (n - (k + 1)) blank
fill-snoc {A} front n k blank x long below =
    let left : n - k ≡ suc (n - (k + 1)) = omega arith in
    ap (λ (m : ℕ). set (front ++ replicate m blank) k x) left
    ∙ set_at front blank (replicate (n - (k + 1)) blank) x k long
    ∙ sym (append_assoc front (x ∷ []) (replicate (n - (k + 1)) blank))

module _ {A B : Type 0} (f : A → B) (xs : List A) (n : ℕ) (blank : B) where
  abbrev pub filled : ℕ → List B
  filled i = map f (take i xs) ++ replicate (n - i) blank

  module _ (i : ℕ) (d : A) (below : i < n) (within : n ≤ length xs) where
    front : map f (take (i + 1) xs) ≡ map f (take i xs) ++ (f (get_or xs i d) ∷ [])
    front = rw (add-one, take-suc xs i d (omega arith)) (map_snoc f (take i xs) (get_or xs i d))

    -- storing the next image in the next place fills one place more
    pub fill-next : set (filled i) i (f (get_or xs i d)) ≡ filled (i + 1)
    fill-next =
        fill-snoc (map f (take i xs)) n i blank (f (get_or xs i d)) (length-map (take i xs) f ∙ length-take-le i xs (omega arith)) below
        ∙ ap (λ (l : List B). l ++ replicate (n - (i + 1)) blank) (sym front)

  -- every place is filled
  pub all-filled : length xs ≡ n → filled n ≡ map f xs
  all-filled long =
      ap₂ (λ (l : List A) (m : ℕ). map f l ++ replicate m blank) (take_all n xs (omega (arith, long))) (let none : n - n ≡ 0 = omega arith in none)
      ∙ append-nil (map f xs)
