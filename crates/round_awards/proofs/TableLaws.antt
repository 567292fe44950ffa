-- Laws about tables of numbers, and about the lower of two prices.
use mathlib.Core.Path.{◌≡◌, refl, sym, ◌∙◌, ap}
use mathlib.Core.Bool.{Bool, true, false, cond}
use mathlib.Core.List.{List, [], ◌∷◌, ◌++◌}
use Prim.Native.Nat.{ℕ, zero, suc, ◌<◌, min}
use native.Mathlib.Omega.{arith}
use lib.Dec.{eqb}
use borrow.Author.Tests.{eqb-true, eqb-false, ne_eqb}
use lib.ListN.{length, get_or, length-append, get_or-append}
use lib.Seq.{ext_get_or, get_or_at}
use Rattle.round_award_rules.specs.Awards.{lower}
use Rattle.round_awards.specs.Tables.{below}

pub below_length : (n : ℕ) (f : ℕ → ℕ) → length (below n f) ≡ n
below_length zero f = refl
below_length (suc n) f =
    let more = below_length n f in
    let one = length-append (below n f) (f n ∷ []) in
    omega (arith, more, one)

pub below_at : (n : ℕ) (f : ℕ → ℕ) (i : ℕ) → i < n → get_or (below n f) i 0 ≡ f i
below_at zero f i h = absurd (let no : ⊥ = omega arith in no)
below_at (suc n) f i h = go (eqb i n) refl (λ k. below_at n f i k)
  where
    go : (t : Bool) → eqb i n ≡ t → (i < n → get_or (below n f) i 0 ≡ f i) → get_or (below n f ++ (f n ∷ [])) i 0 ≡ f i
    go true e before =
        let same : i ≡ n = eqb-true i n e in
        get_or_at (below n f) (f n) [] 0 i (below_length n f ∙ sym same) ∙ ap f (sym same)
    go false e before =
        let less : i < n = omega (arith, h, eqb-false i n e) in
        get_or-append (below n f) (f n ∷ []) 0 i (omega (arith, less, below_length n f)) ∙ before less

-- a list with the values of a function is its table
pub table_is : (l : List ℕ) (n : ℕ) (f : ℕ → ℕ) → length l ≡ n → ((i : ℕ) → i < n → get_or l i 0 ≡ f i) → l ≡ below n f
table_is l n f long same =
    ext_get_or 0 l (below n f) (long ∙ sym (below_length n f))
    (λ i inside. same i (omega (arith, inside, long)) ∙ sym (below_at n f i (omega (arith, inside, long))))

-- the lower of a price and none is that price, and of two prices the smaller one
pub lower-none : (p : ℕ) → lower p 0 ≡ p
lower-none p = go (eqb p 0) refl
  where
    go : (t : Bool) → eqb p 0 ≡ t → cond t 0 p ≡ p
    go true e = sym (eqb-true p 0 e)
    go false e = refl

pub lower-both : (p q : ℕ) → 0 < p → 0 < q → lower p q ≡ min p q
lower-both p q hp hq =
    ap (λ (t : Bool). cond t q (cond (eqb q 0) p (min p q))) (ne_eqb p 0 (λ e. let no : ⊥ = omega (arith, e) in no))
    ∙ ap (λ (t : Bool). cond t p (min p q)) (ne_eqb q 0 (λ e. let no : ⊥ = omega (arith, e) in no))

-- the lower of three prices is the same whichever two are compared first
pub lower-assoc : (p q r : ℕ) → lower (lower p q) r ≡ lower p (lower q r)
lower-assoc p q r = go (eqb p 0) (eqb q 0) (eqb r 0) refl refl refl
  where
    some : (n : ℕ) → eqb n 0 ≡ false → 0 < n
    some n e = omega (arith, eqb-false n 0 e)

    go : (s t u : Bool) → eqb p 0 ≡ s → eqb q 0 ≡ t → eqb r 0 ≡ u → lower (lower p q) r ≡ lower p (lower q r)
    go true t u e f g =
        let none : p ≡ 0 = eqb-true p 0 e in
        ap (λ (n : ℕ). lower (lower n q) r) none ∙ ap (λ (n : ℕ). lower n (lower q r)) (sym none)
    go false true u e f g =
        let none : q ≡ 0 = eqb-true q 0 f in
        ap (λ (n : ℕ). lower n r) (ap (lower p) none ∙ lower-none p) ∙ ap (λ (n : ℕ). lower p (lower n r)) (sym none)
    go false false true e f g =
        let none : r ≡ 0 = eqb-true r 0 g in
        ap (lower (lower p q)) none ∙ lower-none (lower p q) ∙ ap (lower p) (sym (ap (lower q) none ∙ lower-none q))
    go false false false e f g =
        let one = lower-both p q (some p e) (some q f) in
        let two = lower-both q r (some q f) (some r g) in
        ap (λ (n : ℕ). lower n r) one
        ∙ lower-both (min p q) r (omega (arith, some p e, some q f)) (some r g)
        ∙ (let same : min (min p q) r ≡ min p (min q r) = omega arith in same)
        ∙ sym (lower-both p (min q r) (some p e) (omega (arith, some q f, some r g)))
        ∙ ap (lower p) (sym two)
