-- Lines read one by one into slots.
use mathlib.Core.Path.{◌≡◌, refl, sym, ◌∙◌, ap, ap₂, subst}
use mathlib.Core.Bool.{Bool, true, false}
use mathlib.Core.List.{List, [], ◌∷◌, ◌++◌}
use Prim.Native.Nat.{ℕ, zero, suc, ◌+◌, ◌-◌, ◌≤◌, ◌<◌, min}
use native.Mathlib.Numerals.{add-one}
use native.Mathlib.Omega.{arith}
use lib.Dec.{leb}
use lib.ListN.{length, take, drop, get_or, set, replicate}
use lib.Seq.{drop-drop, drop-cons, take-suc, take_all, length-take-le}
use borrow.Author.Tests.{leb-true, leb-false}
use Rattle.market.proofs.Filled.{fill-snoc}
use Rattle.text_fields.proofs.ReadLaws.{field-within}
use Rattle.text_fields.specs.Fields.{space, amount_top, field_at}
use Rattle.sheet_lines.specs.Lines.{count_used, count_said, line_at}
use Rattle.sheet_lines.specs.declared.part.Part.{Part}
use Rattle.sheet_lines.specs.declared.part.Part.TheVariants.{Bidders, Paths, Bids}
use Rattle.sheet_lines.specs.declared.part.Step.{Step}
use Rattle.sheet_form.proofs.RightLaws.{lines-count}
use Rattle.sheet_form.specs.Reading.{lines_in, section_says}
use Rattle.sheet_form.specs.Slots.{filled}

-- what a line asks of the next one is at most an amount plus 1, or 1 more than was asked of it
pub next-bound : (part : Part) (state i : ℕ) (text : List ℕ) → state ≤ amount_top + 1 + i → (line_at part state text).next ≤ amount_top + 1 + (i + 1)
next-bound Bidders state i text h = omega (arith, field-within amount_top space text (field_at amount_top space text) refl)
next-bound Paths state i text h = omega arith
next-bound Bids state i text h = omega arith

module _ {X : Type 0} (part : Part) (read : List ℕ → X) where
  -- the first `n` of the lines are what is read if there are only `n`
  pub lines-take : (n k state : ℕ) (text : List ℕ) → n ≤ k → take n (lines_in part read k state text) ≡ lines_in part read n state text
  lines-take zero k state text h = refl
  lines-take (suc n) zero state text h = absurd (let none : ⊥ = omega arith in none)
  lines-take (suc n) (suc k) state text h =
      ap (read text ∷◌) (lines-take n k (line_at part state text).next (drop (line_at part state text).used text) (omega arith))

-- ---- A loop that reads `count` lines, each into its slot

pub record SlotsTo {X : Type 0} (part : Part) (read : List ℕ → X) (size : ℕ) (none : X) (bytes : List ℕ) (at count : ℕ) (slots : List X) (place state i : ℕ) : Type 0 where
  pub fits : place ≤ length bytes
  pub within : i ≤ count
  pub bound : state ≤ amount_top + 1 + i
  pub front : slots ≡ take i (lines_in part read count 0 (drop at bytes)) ++ replicate (size - i) none
  pub rest : drop i (lines_in part read count 0 (drop at bytes)) ≡ lines_in part read (count - i) state (drop place bytes)

module _ {X : Type 0} (part : Part) (read : List ℕ → X) (size : ℕ) (none : X) (bytes : List ℕ) (at count : ℕ) where
  abbrev all : List X
  all = lines_in part read count 0 (drop at bytes)

  all-count : length all ≡ count
  all-count = lines-count part read count 0 (drop at bytes)

  -- before the first line
  pub none-slotted : (blank : X) → blank ≡ none → at ≤ length bytes → SlotsTo part read size none bytes at count (replicate size blank) at 0 0
  none-slotted blank is inside =
      record {
        fits = inside;
        within = omega arith;
        bound = omega arith;
        front = ap₂ replicate (let same : size ≡ size - 0 = omega arith in same) is;
        rest = ap (λ (n : ℕ). lines_in part read n 0 (drop at bytes)) (let same : count ≡ count - 0 = omega arith in same);
      }

  module _ (slots : List X) (place state i : ℕ) (s : SlotsTo part read size none bytes at count slots place state i) where
    -- after the last line
    pub all-slotted : count ≤ size → count ≤ i → slots ≡ filled size none all
    all-slotted room end =
        let full : i ≡ count = omega (arith, s.within) in
        s.front
        ∙ ap₂ (λ (xs : List X) (n : ℕ). xs ++ replicate n none)
        (take_all i all (omega (arith, all-count, full)) ∙ sym (take_all size all (omega (arith, all-count))))
        (let same : size - i ≡ size - length all = omega (arith, all-count, full) in same)

    module _ (more : i < count) where
      abbrev here : Step
      here = line_at part state (drop place bytes)

      inside : i < length all
      inside = omega (arith, all-count)

      split : get_or all i none ∷ drop (suc i) all ≡ read (drop place bytes) ∷ lines_in part read (count - (i + 1)) here.next (drop here.used (drop place bytes))
      split =
          sym (drop-cons all i none inside)
          ∙ s.rest
          ∙ ap (λ (n : ℕ). lines_in part read n state (drop place bytes)) (let left : count - i ≡ suc (count - (i + 1)) = omega arith in left)

      -- one line more
      pub one-slotted :
          (line :
          X) → line ≡ read (drop place bytes) → (step : Step) → step ≡ here → i < size → place + step.used ≤ length bytes
          → SlotsTo part read size none bytes at count (set slots i line) (place + step.used) step.next (i + 1)
      one-slotted line said step is room fits =
          let first : get_or all i none ≡ line = ap (λ (xs : List X). get_or xs 0 none) split ∙ sym said in
          record {
            fits = fits;
            within = omega arith;
            bound = subst (λ (p : Step). p.next ≤ amount_top + 1 + (i + 1)) (sym is) (next-bound part state i (drop place bytes) s.bound);
            front =
                ap (λ (xs : List X). set xs i line) s.front
                ∙ fill-snoc (take i all) size i none line (length-take-le i all (omega (arith, inside))) room
                ∙ ap (λ (xs : List X). xs ++ replicate (size - (i + 1)) none)
                (ap (λ (x : X). take i all ++ (x ∷ [])) (sym first)
                ∙ sym (take-suc all i none inside)
                ∙ ap (λ (n : ℕ). take n all) (sym (add-one i)));
            rest =
                ap (λ (n : ℕ). drop n all) (add-one i)
                ∙ ap (drop 1) split
                ∙ ap (λ (p : Step). lines_in part read (count - (i + 1)) p.next (drop p.used (drop place bytes))) (sym is)
                ∙ ap (lines_in part read (count - (i + 1)) step.next) (drop-drop step.used place bytes);
          }

-- ---- A section

module _ {X : Type 0} (part : Part) (read : List ℕ → X) (size : ℕ) (none : X) where
  -- lines that have no slot change nothing
  slots-cap : (k : ℕ) (text : List ℕ) → filled size none (lines_in part read (min k size) 0 text) ≡ filled size none (lines_in part read k 0 text)
  slots-cap k text = go (leb k size) refl
    where
      go : (t : Bool) → leb k size ≡ t → filled size none (lines_in part read (min k size) 0 text) ≡ filled size none (lines_in part read k 0 text)
      go true few =
          let within : k ≤ size = leb-true k size few in
          ap (λ (n : ℕ). filled size none (lines_in part read n 0 text)) (let same : min k size ≡ k = omega (arith, within) in same)
      go false many =
          let over : size < k = leb-false k size many in
          ap (λ (n : ℕ). filled size none (lines_in part read n 0 text)) (let same : min k size ≡ size = omega (arith, over) in same)
          ∙ ap₂ (λ (xs : List X) (n : ℕ). xs ++ replicate n none)
          (lines-take part read size size 0 text (omega arith) ∙ sym (lines-take part read size k 0 text (omega (arith, over))))
          (let same : size - length (lines_in part read size 0 text)
          ≡ size - length (lines_in part read k 0 text) = omega (arith, over, lines-count part read size 0 text, lines-count part read k 0 text) in same)

module _ {X : Type 0} (part : Part) (read : List ℕ → X) (bytes : List ℕ) (at used value : ℕ) (taken : used ≡ count_used part (drop at bytes)) (said : value ≡ count_said part (drop at bytes)) where
  abbrev says : List X
  says = section_says part read (drop at bytes)

  abbrev behind_count : List ℕ
  behind_count = drop (at + used) bytes

  lines_are : lines_in part read value 0 behind_count ≡ says
  lines_are =
      ap₂ (λ (k : ℕ) (l : List ℕ). lines_in part read k 0 l) said
      (sym (drop-drop used at bytes) ∙ ap (λ (n : ℕ). drop n (drop at bytes)) taken)

  -- it has as many lines as its count line says
  pub section-count : value ≡ length says
  section-count = sym (lines-count part read value 0 behind_count) ∙ ap length lines_are

  module _ (size : ℕ) (none : X) (slots : List X) where
    -- all of them were read into slots
    pub section-slots : slots ≡ filled size none (lines_in part read value 0 behind_count) → slots ≡ filled size none says
    section-slots is = is ∙ ap (filled size none) lines_are

    -- as many of them as there are slots were read
    pub section-capped : (n : ℕ) → n ≡ min value size → slots ≡ filled size none (lines_in part read n 0 behind_count) → slots ≡ filled size none says
    section-capped n few is =
        section-slots
        (is
        ∙ ap (λ (k : ℕ). filled size none (lines_in part read k 0 behind_count)) few
        ∙ slots-cap part read size none value behind_count)
