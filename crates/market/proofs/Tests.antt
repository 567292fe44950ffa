-- Laws about tests on numbers and on lists.
use mathlib.Core.Path.{◌≡◌, refl, sym, ◌∙◌, ap}
use mathlib.Core.Bool.{Bool, true, false, cond, ◌&&◌, ◌||◌, false≢true}
use mathlib.Core.List.{List}
use Prim.Native.Nat.{ℕ, ◌+◌, ◌-◌, ◌≤◌, ◌<◌}
use native.Mathlib.Omega.{arith}
use native.Mathlib.Numerals.{add-one}
use lib.Dec.{leb, eqb}
use lib.ListN.{length, get_or, take, drop, drop_of_length-le}
use lib.Seq.{drop-cons, get_or-take, length-take-le}
use borrow.Author.Tests.{le-leb, leb-true, eq-eqb, ne_eqb, eqb-true, eqb-false}
use Rattle.market.specs.Books.{every}

-- both sides of a conjunction that holds
pub left-true : (s t : Bool) → (s && t) ≡ true → s ≡ true
left-true true t h = refl
left-true false t h = h

pub right-true : (s t : Bool) → (s && t) ≡ true → t ≡ true
right-true true t h = h
right-true false t h = absurd (false≢true h)

-- both sides of a disjunction that does not hold
pub neither-true : (s t : Bool) → (s || t) ≡ false → (s ≡ false) × (t ≡ false)
neither-true true t h = absurd (false≢true (sym h))
neither-true false t h = (refl, h)

-- a number that a test keeps or replaces by 0 is at most what it was
pub kept-at-most : (t : Bool) (n : ℕ) → cond t n 0 ≤ n
kept-at-most true n = omega arith
kept-at-most false n = omega arith

-- two comparisons that follow from each other have the same test
pub leb-same : (a b c d : ℕ) → (a ≤ b → c ≤ d) → (c ≤ d → a ≤ b) → leb a b ≡ leb c d
leb-same a b c d f g = go (leb a b) (leb c d) refl refl
  where
    go : (s t : Bool) → leb a b ≡ s → leb c d ≡ t → leb a b ≡ leb c d
    go true t p q = p ∙ sym (le-leb c d (f (leb-true a b p)))
    go false true p q = le-leb a b (g (leb-true c d q)) ∙ sym q
    go false false p q = p ∙ sym q

-- whether a sum is within a limit, tested by what the limit leaves
pub leb-left : (a b limit : ℕ) → a ≤ limit → leb b (limit - a) ≡ leb (a + b) limit
leb-left a b limit h = leb-same b (limit - a) (a + b) limit (λ p. omega arith) (λ p. omega arith)

-- a sum is 0 exactly where both parts are
pub eqb-sum : (a b : ℕ) → (eqb a 0 && eqb b 0) ≡ eqb (a + b) 0
eqb-sum a b = go (eqb a 0) (eqb b 0) refl refl
  where
    go : (s t : Bool) → eqb a 0 ≡ s → eqb b 0 ≡ t → (s && t) ≡ eqb (a + b) 0
    go true true p q =
        let x : a ≡ 0 = eqb-true a 0 p in
        let y : b ≡ 0 = eqb-true b 0 q in
        sym (eq-eqb (a + b) 0 (omega arith))
    go true false p q = sym (ne_eqb (a + b) 0 (λ e. eqb-false b 0 q (omega arith)))
    go false t p q = sym (ne_eqb (a + b) 0 (λ e. eqb-false a 0 p (omega arith)))

-- a test of every element, made from the front: the elements before `i` have passed
abbrev pub Passed : {A : Type 0} → (A → Bool) → List A → ℕ → Type 0
Passed test l i = every test l ≡ every test (drop i l)

module _ {A : Type 0} (test : A → Bool) (l : List A) (i : ℕ) (d : A) where
  every-at : i < length l → every test (drop i l) ≡ (test (get_or l i d) && every test (drop (i + 1) l))
  every-at h = rw (add-one, drop-cons l i d)

  pub pass : i < length l → Passed test l i → test (get_or l i d) ≡ true → Passed test l (i + 1)
  pass h p e = p ∙ every-at h ∙ ap (λ (t : Bool). t && every test (drop (i + 1) l)) e

  pub fail : i < length l → Passed test l i → test (get_or l i d) ≡ false → every test l ≡ false
  fail h p e = p ∙ every-at h ∙ ap (λ (t : Bool). t && every test (drop (i + 1) l)) e

  pub passed : length l ≤ i → Passed test l i → every test l ≡ true
  passed h p = p ∙ ap (every test) (drop_of_length-le l h)

-- the same for the first `count` elements of a list
module _ {A : Type 0} (test : A → Bool) (xs : List A) (count : ℕ) (within : count ≤ length xs) (i : ℕ) (d : A) where
  pub pass-first : i < count → Passed test (take count xs) i → test (get_or xs i d) ≡ true → Passed test (take count xs) (i + 1)
  pass-first h p e =
      pass test (take count xs) i d (omega (arith, length-take-le count xs within)) p
      (ap test (get_or-take count xs i d h) ∙ e)

  pub fail-first : i < count → Passed test (take count xs) i → test (get_or xs i d) ≡ false → every test (take count xs) ≡ false
  fail-first h p e =
      fail test (take count xs) i d (omega (arith, length-take-le count xs within)) p
      (ap test (get_or-take count xs i d h) ∙ e)

  pub passed_first : count ≤ i → Passed test (take count xs) i → every test (take count xs) ≡ true
  passed_first h p = passed test (take count xs) i d (omega (arith, length-take-le count xs within)) p
