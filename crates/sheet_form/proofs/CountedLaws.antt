-- A section after its count: one that is written is read, and one that is read is in the text as it is written.
use mathlib.Core.Path.{◌≡◌, sym, ◌∙◌, ap, ap₂, subst}
use mathlib.Core.Bool.{true}
use mathlib.Core.List.{List, ◌++◌, append_assoc}
use Prim.Native.Nat.{ℕ, ◌+◌, ◌≤◌}
use native.Mathlib.Omega.{arith}
use lib.ListN.{length, drop, length-append}
use lib.Seq.{drop-append_seam}
use borrow.Author.Tests.{eqb-true, eq-eqb}
use Rattle.text_fields.proofs.FieldLaws.{Front, front-both}
use Rattle.text_fields.specs.Fields.{count_line, word_top}
use Rattle.sheet_lines.specs.Lines.{part_word, count_used, count_said, line_at}
use Rattle.sheet_form.specs.Form.{line_then, lines_at, section_at, section_whole}
use Rattle.sheet_form.specs.Reading.{lines_in, section_says}
use Rattle.sheet_form.specs.declared.form.Read.{Read}
use Rattle.sheet_form.proofs.LineLaws.{count-said, count-written, count-some, count-read}
use Rattle.sheet_form.proofs.SectionLaws.{Sort, write_all, right_all, Written, Stands, then_some, then-counted, lines-written, lines-again, lines-stand}

abbrev pub section_text : {X : Type 0} → Sort X → List X → List ℕ
section_text s xs = count_line (part_word s.part) (length xs) ++ write_all s 0 xs

pub record SectionRead {X : Type 0} (s : Sort X) (text : List ℕ) : Type 0 where
  pub front : Front (section_text s (section_says s.part s.read text)) text
  pub long : (section_at s.part text).used ≡ length (section_text s (section_says s.part s.read text))
  pub right : right_all s 0 (section_says s.part s.read text) ≡ true
  pub most : length (section_says s.part s.read text) ≤ word_top

module _ {X : Type 0} (s : Sort X) (written : (state : ℕ) (x : X) (rest : List ℕ) → s.right state x ≡ true → Written s state x rest)
    (present : (state : ℕ) (text : List ℕ) → 1 ≤ (line_at s.part state text).used → Stands s state text) where
  module _ (xs : List X) (rest : List ℕ) (right : right_all s 0 xs ≡ true) (most : length xs ≤ word_top) where
    abbrev count : List ℕ
    count = count_line (part_word s.part) (length xs)

    abbrev body : List ℕ
    body = write_all s 0 xs

    abbrev whole : List ℕ
    whole = section_text s xs ++ rest

    whole_is : whole ≡ count ++ (body ++ rest)
    whole_is = append_assoc count body rest

    said : count_said s.part whole ≡ length xs
    said = ap (count_said s.part) whole_is ∙ count-said s.part (length xs) (body ++ rest) most

    used : count_used s.part whole ≡ length count
    used = ap (count_used s.part) whole_is ∙ count-written s.part (length xs) (body ++ rest) most

    behind-count : drop (count_used s.part whole) whole ≡ body ++ rest
    behind-count = ap₂ drop used whole_is ∙ drop-append_seam count (body ++ rest)

    pub section-written : section_at s.part whole ≡ record { lines = 1 + length xs; used = length (section_text s xs) }
    section-written =
        ap₂ (λ (n : ℕ) (l : List ℕ). line_then n (lines_at s.part (count_said s.part whole) 0 l)) used behind-count
        ∙ ap (λ (k : ℕ). line_then (length count) (lines_at s.part k 0 (body ++ rest))) said
        ∙ ap (line_then (length count)) (lines-written s written present xs 0 rest right)
        ∙ then_some (length count) (record { lines = length xs; used = length body }) (count-some s.part (length xs))
        ∙ ap (λ (n : ℕ). record { lines = 1 + length xs; used = n }) (sym (length-append count body))

    pub section-stands : section_whole s.part whole ≡ true
    section-stands =
        eq-eqb (section_at s.part whole).lines (1 + count_said s.part whole)
        (ap (λ (r : Read). r.lines) section-written ∙ ap (λ (k : ℕ). 1 + k) (sym said))

    pub section-again : section_says s.part s.read whole ≡ xs
    section-again =
        ap₂ (λ (k : ℕ) (l : List ℕ). lines_in s.part s.read k 0 l) said behind-count
        ∙ lines-again s written present xs 0 rest right

  pub section-read : (text : List ℕ) → section_whole s.part text ≡ true → SectionRead s text
  section-read text all =
      let part = s.part in
      let n = count_said part text in
      let rest = drop (count_used part text) text in
      let lines = eqb-true (section_at part text).lines (1 + n) all in
      let parts = then-counted (count_used part text) (lines_at part n 0 rest) n (omega (arith, lines)) in
      let c = count-read part text parts.0 in
      let more = lines-stand s written present n 0 rest parts.1 in
      let xs = section_says part s.read text in
      let body = write_all s 0 xs in
      let head : count_line (part_word part) n ≡ count_line (part_word part) (length xs) = ap (count_line (part_word part)) (sym more.count) in
      record {
        front =
            subst (λ (w : List ℕ). Front (w ++ body) text) head
            (front-both (count_line (part_word part) n) body text c.front (subst (λ (k : ℕ). Front body (drop k text)) c.long more.front));
        long =
            ap (λ (r : Read). r.used) (then_some (count_used part text) (lines_at part n 0 rest) parts.0)
            ∙ ap₂ ◌+◌ c.long more.long
            ∙ sym (length-append (count_line (part_word part) n) body)
            ∙ ap (λ (w : List ℕ). length (w ++ body)) head;
        right = more.right;
        most = omega (arith, more.count, c.most);
      }
