-- The answer and the buffer after it, by the buffer's length and the sheet's form.
use mathlib.Core.Path.{◌≡◌, sym, ◌∙◌, ap}
use mathlib.Core.Bool.{Bool, true, false}
use mathlib.Core.List.{List}
use Prim.Native.Nat.{ℕ, ◌≤◌, ◌<◌}
use native.Mathlib.Omega.{arith}
use lib.ListN.{length}
use Rattle.std.specs.Prelude.{Result, Ok, Err}
use borrow.Author.Tests.{le-leb, lt-leb}
use Rattle.market.specs.Limits.{award_sheet_bytes}
use Rattle.market.specs.Answers.{form_refusal}
use Rattle.market.specs.declared.answer.Refusal.{Refusal}
use Rattle.text_numbers.proofs.PutLaws.{put_is}
use Rattle.text_numbers.specs.Put.{Put}
use Rattle.sheet_form.specs.Form.{SheetForm, well_formed, faulty_at, form_of}
use Rattle.sheet_form.specs.Reading.{sheet_in}
use Rattle.award_sheet_parts.specs.AwardSheet.{refused_line}
use Rattle.sheet_output.specs.Output.{sheet_output, by_form, output_of, has_output_room, answer_if, buffer_if, answer_to, buffer_after}

-- the output by the form that was found
pub right-output : (text : List ℕ) → form_of text ≡ well_formed → output_of text ≡ sheet_output (sheet_in text)
unfolding output_of
right-output text form = ap (λ (f : SheetForm). by_form f (sheet_output (sheet_in text))) form

pub faulty-output : (text : List ℕ) {line : ℕ} → form_of text ≡ faulty_at line → output_of text ≡ refused_line form_refusal line
unfolding output_of
faulty-output text form = ap (λ (f : SheetForm). by_form f (sheet_output (sheet_in text))) form

-- an answer of so many bytes
abbrev ok : ℕ → Result ℕ Refusal
ok n = Ok n

module _ (text out : List ℕ) where
  -- a buffer that is too short
  pub too_short : length out < award_sheet_bytes → (Err Refusal.ShortBuffer ≡ answer_to text out) × (out ≡ buffer_after text out)
  unfolding answer_to buffer_after
  too_short less =
      let short : has_output_room out ≡ false = lt-leb award_sheet_bytes (length out) less in (
        ap (λ (t : Bool). answer_if t (output_of text)) (sym short),
        ap (λ (t : Bool). buffer_if t out (output_of text)) (sym short),
      )

  -- a buffer that is long enough
  pub filled-with :
      award_sheet_bytes ≤ length out → {output : List ℕ} → output_of text ≡ output → {count : ℕ} {after : List ℕ} → Put out 0 output after count
      → (Ok count ≡ answer_to text out) × (after ≡ buffer_after text out)
  unfolding answer_to buffer_after
  filled-with enough is {count} put =
      let long : has_output_room out ≡ true = le-leb award_sheet_bytes (length out) enough in
      let all = put_is is put in
      let counted : count ≡ length (output_of text) = omega (arith, all.place) in (
        ap (λ (n : ℕ). ok n) counted ∙ ap (λ (t : Bool). answer_if t (output_of text)) (sym long),
        all.bytes ∙ ap (λ (t : Bool). buffer_if t out (output_of text)) (sym long),
      )
