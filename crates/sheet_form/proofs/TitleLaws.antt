-- A title that is written is read, and one that is read is in the text as it is written.
use mathlib.Core.Path.{◌≡◌, refl, sym, ◌∙◌, ap, subst}
use mathlib.Core.Bool.{Bool, true, false, ◌&&◌, ◌||◌}
use mathlib.Core.List.{List, [], ◌∷◌, ◌++◌}
use Prim.Native.Nat.{ℕ, ◌+◌, ◌≤◌}
use native.Mathlib.Omega.{arith}
use lib.Dec.{eqb}
use lib.ListN.{length, get_or, drop, length-append}
use lib.Seq.{get_or-drop}
use borrow.Author.Tests.{eqb-true}
use Rattle.market.proofs.Tests.{left-true, right-true}
use Rattle.market.specs.Books.{every}
use Rattle.market.specs.declared.book.Kind.{Kind}
use Rattle.market.specs.declared.book.Kind.TheVariants.{Short, Long}
use Rattle.text_numbers.specs.Decimal.{decimal}
use Rattle.text_fields.proofs.FieldLaws.{Front, front-both, line-text, text-some, within, used-written, said-written, numbers-read}
use Rattle.text_fields.specs.Fields.{space, newline, word_top, starts_with, word_spaced, numbers_used, numbers_said, line, numbers_text}
use Rattle.sheet_lines.specs.Lines.{word_then, title_word, kind_byte, is_kind, long_if, kind_of_byte, kind_place, days_place, title_used}
use Rattle.sheet_form.specs.Form.{sheet_kind}
use Rattle.sheet_form.specs.Reading.{days_in}
use Rattle.sheet_form.proofs.LineLaws.{or_left, starts-read, behind-written, behind-read, two_bytes}

-- the part of a title before its days, and its days
abbrev pub title_head : Kind → List ℕ
title_head kind = word_spaced title_word ++ (kind_byte kind ∷ space ∷ [])

abbrev pub title_text : Kind → ℕ → ℕ → List ℕ
title_text kind first last = line (title_word ∷ (kind_byte kind ∷ []) ∷ decimal first ∷ decimal last ∷ [])

title-text : (kind : Kind) (first last : ℕ) → title_text kind first last ≡ title_head kind ++ numbers_text newline (first ∷ last ∷ [])
title-text kind first last =
    ap (λ (l : List ℕ). title_head kind ++ l) (sym (line-text first (last ∷ [])))

pub title-some : (kind : Kind) (first last : ℕ) → 1 ≤ length (title_text kind first last)
title-some kind first last =
    omega (
      arith,
      ap length (title-text kind first last),
      length-append (title_head kind) (numbers_text newline (first ∷ last ∷ [])),
      text-some newline first (last ∷ []),
    )

kind-byte : (kind : Kind) → is_kind (kind_byte kind) ≡ true
kind-byte Short = refl
kind-byte Long = refl

kind-again : (kind : Kind) → kind_of_byte (kind_byte kind) ≡ kind
kind-again Short = refl
kind-again Long = refl

kind-read : (c : ℕ) → is_kind c ≡ true → kind_byte (kind_of_byte c) ≡ c
kind-read c h = go (eqb c (kind_byte Long)) refl
  where
    go : (t : Bool) → eqb c (kind_byte Long) ≡ t → kind_byte (long_if t) ≡ c
    go true e = sym (eqb-true c (kind_byte Long) e)
    go false e = sym (eqb-true c (kind_byte Short) (or_left (eqb c (kind_byte Short)) (ap (λ (t : Bool). eqb c (kind_byte Short) || t) (sym e) ∙ h)))

module _ (kind : Kind) (first last : ℕ) (rest : List ℕ) (right : every (within word_top) (first ∷ last ∷ []) ≡ true) where
  abbrev whole : List ℕ
  whole = title_text kind first last ++ rest

  days-are : drop days_place whole ≡ numbers_text newline (first ∷ last ∷ []) ++ rest
  days-are = ap (λ (l : List ℕ). l ++ rest) (sym (line-text first (last ∷ [])))

  pub title-kind : sheet_kind whole ≡ kind
  title-kind = kind-again kind

  pub title-days : days_in whole ≡ first ∷ last ∷ []
  title-days =
      ap (numbers_said word_top newline 2) days-are ∙ said-written word_top newline (omega arith) refl first (last ∷ []) rest right

  pub title-written : title_used whole ≡ length (title_text kind first last)
  title-written =
      ap (word_then (is_kind (kind_byte kind) && true) days_place)
      (ap (numbers_used word_top newline 2) days-are ∙ used-written word_top newline (omega arith) refl first (last ∷ []) rest right)
      ∙ behind-written (is_kind (kind_byte kind) && true) days_place (length (numbers_text newline (first ∷ last ∷ [])))
      (ap (λ (t : Bool). t && true) (kind-byte kind)) (omega arith) (text-some newline first (last ∷ []))
      ∙ sym (length-append (title_head kind) (numbers_text newline (first ∷ last ∷ [])))
      ∙ ap length (sym (title-text kind first last))

pub record TitleRead (text : List ℕ) : Type 0 where
  pub front : Front (title_text (sheet_kind text) (get_or (days_in text) 0 0) (get_or (days_in text) 1 0)) text
  pub long : title_used text ≡ length (title_text (sheet_kind text) (get_or (days_in text) 0 0) (get_or (days_in text) 1 0))
  pub right : every (within word_top) (days_in text) ≡ true

pub title-read : (text : List ℕ) → 1 ≤ title_used text → TitleRead text
title-read text used =
    let word = starts_with (word_spaced title_word) text in
    let c = get_or text kind_place 0 in
    let gap = eqb (get_or text (kind_place + 1) 0) space in
    let parts = behind-read (word && is_kind c && gap) days_place (numbers_used word_top newline 2 (drop days_place text)) used in
    let r = numbers-read word_top newline 1 (drop days_place text) (omega arith) parts.1 in
    let front-two = left-true (word && is_kind c) gap parts.0 in
    let byte = kind-read c (right-true word (is_kind c) front-two) in
    let head : Front (title_head (sheet_kind text)) text = front-both (word_spaced title_word) (kind_byte (sheet_kind text) ∷ space ∷ []) text
    (starts-read (word_spaced title_word) text (left-true word (is_kind c) front-two))
    (two_bytes (drop kind_place text) (kind_byte (sheet_kind text)) space (get_or-drop kind_place text 0 0 ∙ sym byte)
    (get_or-drop kind_place text 1 0 ∙ eqb-true (get_or text (kind_place + 1) 0) space (right-true (word && is_kind c) gap parts.0)) (omega arith)) in
    let first = get_or (days_in text) 0 0 in
    let last = get_or (days_in text) 1 0 in
    let whole = title-text (sheet_kind text) first last in
    record {
      front =
          subst (λ (w : List ℕ). Front w text) (sym whole)
          (front-both (title_head (sheet_kind text)) (numbers_text newline (first ∷ last ∷ [])) text head r.front);
      long =
          parts.2
          ∙ ap (λ (n : ℕ). days_place + n) r.long
          ∙ sym (length-append (title_head (sheet_kind text)) (numbers_text newline (first ∷ last ∷ [])))
          ∙ ap length (sym whole);
      right = r.all;
    }
