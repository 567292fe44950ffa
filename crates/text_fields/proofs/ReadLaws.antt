-- Laws about words, fields and numbers that are read at a place of a text.
use mathlib.Core.Path.{◌≡◌, refl, sym, ◌∙◌, ap, subst}
use mathlib.Core.Bool.{Bool, true, false, cond, ◌&&◌, false≢true}
use mathlib.Core.List.{List, [], ◌∷◌}
use Prim.Native.Nat.{ℕ, zero, suc, ◌+◌, ◌-◌, ◌^◌, ◌≤◌, ◌<◌}
use native.Mathlib.Omega.{arith}
use lib.Dec.{leb, eqb}
use lib.ListN.{length, get_or, drop}
use lib.Seq.{drop-drop}
use borrow.Author.Tests.{leb-true, ne_eqb}
use Rattle.market.proofs.Tests.{left-true, right-true}
use Rattle.market.specs.Limits.{digit_limit}
use Rattle.text_numbers.proofs.DecimalLaws.{digits-only, value-bound}
use Rattle.text_numbers.specs.Decimal.{digits_in, value_from, no_leading_zero, right_digits, number_at}
use Rattle.text_numbers.specs.declared.Number.{Number}
use Rattle.text_fields.specs.Fields.{space, starts_with, field_at, both, numbers_used}
use Rattle.text_fields.specs.declared.Field.{Field}
use Rattle.text_fields.proofs.FieldLaws.{both_some}

-- ---- A word at a place

-- a word that begins a text is no longer than the text
pub starts_fit : (word text : List ℕ) → starts_with word text ≡ true → length word ≤ length text
starts_fit [] text e = omega arith
starts_fit (c ∷ cs) [] e = absurd (false≢true e)
starts_fit (c ∷ cs) (d ∷ ds) e = omega (arith, starts_fit cs ds (right-true (eqb c d) (starts_with cs ds) e))

-- ---- A number at the front of a text

pub number_small : (text : List ℕ) (n : Number) → n ≡ number_at text → n.value < 10 ^ 13
number_small text n is =
    subst (λ (m : Number). m.value < 10 ^ 13) (sym is) (go (right_digits (digits_in text)) refl)
  where
    go : (t : Bool) → right_digits (digits_in text) ≡ t → cond t (value_from 0 (digits_in text)) 0 < 10 ^ 13
    go true e =
        value-bound (digits_in text) (digits-only text)
        (leb-true (length (digits_in text)) digit_limit (right-true (no_leading_zero (digits_in text)) (leb (length (digits_in text)) digit_limit) e))
    go false e = omega arith

-- ---- A field

pub field-within : (limit stop : ℕ) (text : List ℕ) (f : Field) → f ≡ field_at limit stop text → f.value ≤ limit
field-within limit stop text f is = subst (λ (g : Field). g.value ≤ limit) (sym is) (go (here && ends) refl)
  where
    n : Number
    n = number_at text

    here : Bool
    here = leb 1 n.digits && leb n.value limit

    ends : Bool
    ends = eqb (get_or text n.digits 0) stop

    shown : Bool → Field
    shown t = cond t (record { value = n.value; used = n.digits + 1 }) (record { value = 0; used = 0 })

    go : (t : Bool) → (here && ends) ≡ t → (shown t).value ≤ limit
    go true e =
        leb-true n.value limit (right-true (leb 1 n.digits) (leb n.value limit) (left-true here ends e))
    go false e = omega arith

-- ---- Two parts

pub both-none : (m n : ℕ) → n ≡ 0 → both m n ≡ 0
both-none zero n e = refl
both-none (suc m) zero e = refl
both-none (suc m) (suc n) e = absurd (let none : ⊥ = omega arith in none)

pub both_most : (m n : ℕ) → both m n ≤ m + n
both_most zero n = omega arith
both_most (suc m) zero = omega arith
both_most (suc m) (suc n) = omega arith

both_behind : (m n k : ℕ) → 1 ≤ m → 1 ≤ n → both m (both n k) ≡ both (m + n) k
both_behind m n zero h j = ap (both m) (both-none n 0 refl) ∙ both-none m 0 refl ∙ sym (both-none (m + n) 0 refl)
both_behind m n (suc k) h j =
    ap (both m) (both_some n (suc k) j (omega arith))
    ∙ both_some m (n + suc k) h (omega arith)
    ∙ (let same : m + (n + suc k) ≡ m + n + suc k = omega arith in same)
    ∙ sym (both_some (m + n) (suc k) (omega arith) (omega arith))

-- ---- Numbers one after another

-- the byte that ends a number is not 0
pub stop-some : (t : Bool) (last stop : ℕ) → 1 ≤ last → stop ≡ cond t last space → 1 ≤ stop
stop-some true last stop h e = omega arith
stop-some false last stop h e = omega arith

-- the bytes used so far, and then those of the numbers that are left
module _ (limit last : ℕ) where
  abbrev pub numbers_behind : ℕ → ℕ → List ℕ → ℕ
  numbers_behind used zero text = used
  numbers_behind zero (suc k) text = numbers_used limit last (suc k) text
  numbers_behind (suc used) (suc k) text = both (suc used) (numbers_used limit last (suc k) text)

  behind-none : (k : ℕ) (text : List ℕ) → numbers_behind 0 k text ≡ numbers_used limit last k text
  behind-none zero text = refl
  behind-none (suc k) text = refl

  -- the first of them, and the byte that ends it
  abbrev first_of : ℕ → List ℕ → Field
  first_of k text = field_at limit (cond (eqb k 0) last space) text

  first_more : (k : ℕ) (text : List ℕ) → first_of (suc k) text ≡ field_at limit space text
  first_more k text =
      ap (λ (t : Bool). field_at limit (cond t last space) text) (ne_eqb (suc k) 0 (λ e. omega arith))

  apart : (k : ℕ) (text : List ℕ) → numbers_used limit last (suc (suc k)) text ≡ both (first_of (suc k) text).used (numbers_used limit last (suc k) (drop (first_of (suc k) text).used text))
  apart k text =
      ap (λ (f : Field). both f.used (numbers_used limit last (suc k) (drop f.used text))) (sym (first_more k text))

  first-missing : (k : ℕ) (text : List ℕ) → (first_of k text).used ≡ 0 → numbers_used limit last (suc k) text ≡ 0
  first-missing zero text e = e
  first-missing (suc k) text e =
      apart k text
      ∙ ap (λ (u : ℕ). both u (numbers_used limit last (suc k) (drop (first_of (suc k) text).used text))) e

  behind-missing : (used k : ℕ) (text : List ℕ) → (first_of k text).used ≡ 0 → numbers_behind used (suc k) text ≡ 0
  behind-missing zero k text e = first-missing k text e
  behind-missing (suc used) k text e =
      both-none (suc used) (numbers_used limit last (suc k) text) (first-missing k text e)

  behind-suc : (used k : ℕ) (text : List ℕ) → 1 ≤ used → numbers_behind used (suc k) text ≡ both used (numbers_used limit last (suc k) text)
  behind-suc zero k text h = absurd (let none : ⊥ = omega arith in none)
  behind-suc (suc used) k text h = refl

  behind-one : (used k u : ℕ) (text : List ℕ) → (first_of k text).used ≡ u → 1 ≤ u → numbers_behind used (suc k) text ≡ numbers_behind (used + u) k (drop u text)
  behind-one zero zero u text e h = e ∙ (let same : u ≡ 0 + u = omega arith in same)
  behind-one (suc used) zero u text e h =
      ap (both (suc used)) e ∙ both_some (suc used) u (omega arith) h
  behind-one zero (suc k) u text e h =
      apart k text
      ∙ ap (λ (v : ℕ). both v (numbers_used limit last (suc k) (drop v text))) e
      ∙ ap (λ (v : ℕ). both v (numbers_used limit last (suc k) (drop u text))) (let same : u ≡ 0 + u = omega arith in same)
      ∙ sym (behind-suc (0 + u) k (drop u text) (omega arith))
  behind-one (suc used) (suc k) u text e h =
      ap (both (suc used))
      (apart k text ∙ ap (λ (v : ℕ). both v (numbers_used limit last (suc k) (drop v text))) e)
      ∙ both_behind (suc used) u (numbers_used limit last (suc k) (drop u text)) (omega arith) h
      ∙ sym (behind-suc (suc used + u) k (drop u text) (omega arith))

module _ (bytes : List ℕ) (at limit last count : ℕ) where
  abbrev numbers_here : ℕ
  numbers_here = numbers_used limit last count (drop at bytes)

  pub record TakenTo (used left : ℕ) : Type 0 where
    pub fits : at + used ≤ length bytes
    pub rest : numbers_here ≡ numbers_behind limit last used left (drop (at + used) bytes)

  pub taken_none : at ≤ length bytes → TakenTo 0 count
  taken_none h =
      let same : at ≡ at + 0 = omega arith in
      record {
        fits = omega arith;
        rest =
            ap (λ (k : ℕ). numbers_used limit last count (drop k bytes)) same
            ∙ sym (behind-none limit last count (drop (at + 0) bytes));
      }

  pub taken-all : (used left : ℕ) → TakenTo used left → left ≤ 0 → used ≡ numbers_here
  taken-all used zero to h = sym to.rest
  taken-all used (suc left) to h = absurd (let none : ⊥ = omega arith in none)

  -- the next number
  module _ (used left : ℕ) (to : TakenTo used left) (more : 0 < left) (f : Field) (stop : ℕ) (ends : stop ≡ cond (eqb (left - 1) 0) last space) (is : f ≡ field_at limit stop (drop (at + used) bytes))
    where
      first-is : (first_of limit last (left - 1) (drop (at + used) bytes)).used ≡ f.used
      first-is =
          ap (λ (f : Field). f.used)
          (ap (λ (s : ℕ). field_at limit s (drop (at + used) bytes)) (sym ends) ∙ sym is)

      here : numbers_here ≡ numbers_behind limit last used (suc (left - 1)) (drop (at + used) bytes)
      here =
          to.rest
          ∙ ap (λ (k : ℕ). numbers_behind limit last used k (drop (at + used) bytes)) (let same : left ≡ suc (left - 1) = omega arith in same)

      pub taken-missing : f.used ≡ 0 → 0 ≡ numbers_here
      taken-missing e =
          sym (here ∙ behind-missing limit last used (left - 1) (drop (at + used) bytes) (first-is ∙ e))

      pub taken-one : (f.used ≡ 0 → ⊥) → at + used + f.used ≤ length bytes → TakenTo (used + f.used) (left - 1)
      taken-one some h =
          let same : at + used + f.used ≡ at + (used + f.used) = omega arith in
          record {
            fits = omega arith;
            rest =
                here
                ∙ behind-one limit last used (left - 1) f.used (drop (at + used) bytes) first-is (omega (arith, some))
                ∙ ap (numbers_behind limit last (used + f.used) (left - 1))
                (drop-drop f.used (at + used) bytes ∙ ap (λ (k : ℕ). drop k bytes) same);
          }
