-- The output of a sheet, from its bytes, and the buffer that it is written to (rules 14.6 to 14.12, and rule 13.40).
use Rattle.std.specs.Prelude.{Result, Bool, true, false, List, map, ℕ, leb, length, Ok, Err}
use Rattle.market.specs.Books.{day_number}
use Rattle.market.specs.Limits.{award_sheet_bytes}
use Rattle.market.specs.declared.answer.Outcome.{Outcome}
use Rattle.market.specs.declared.book.Period.{Period}
use Rattle.market.specs.Answers.{form_refusal}
use Rattle.market.specs.declared.answer.Refusal.{Refusal}
use Rattle.text_numbers.specs.Put.{put_at}
use Rattle.round_bids.specs.Encoding.{encoded}
use Rattle.sheet_form.specs.Form.{SheetForm, form_of}
use Rattle.sheet_form.specs.Reading.{sheet_in}
use Rattle.sheet_form.specs.Sheet.{Sheet}
use Rattle.sheet_calls.specs.Calls.{opened}
use Rattle.sheet_rounds.specs.Rounds.{output_from}
use Rattle.award_sheet_parts.specs.AwardSheet.{refused_line}

-- ---- Before the rounds

-- the days of the title are the auction's period
abbrev pub sheet_period : Sheet → Period
sheet_period s = record { first = day_number s.first; last = day_number s.last }

-- rule 14.6: the calls up to open
abbrev pub start : Sheet → Outcome
start s = opened s.kind (sheet_period s) s.bidders s.paths

-- ---- The output

-- rules 14.6, 14.7 and 14.9: the output of a well-formed sheet, from the calls up to open and a round for each section of bids
unfoldable pub sheet_output : Sheet → List ℕ
sheet_output s = output_from (start s) (map (λ x. x.bidder) s.bidders) (map encoded s.rounds)

-- rules 13.40 and 14.8: a sheet of faulty form has the one line `refused 40 line L`, and none of its calls is made
abbrev pub by_form : SheetForm → List ℕ → List ℕ
by_form (Ok found) output = output
by_form (Err line) output = refused_line form_refusal line.0

-- rules 14.8 and 14.12: the output of any bytes, which the program `tra` writes for those that it reads
unfoldable pub output_of : List ℕ → List ℕ
output_of text = by_form (form_of text) (sheet_output (sheet_in text))

-- rule 14.11: the output buffer has 65,536 bytes or more
abbrev pub has_output_room : List ℕ → Bool
has_output_room out = leb award_sheet_bytes (length out)

-- rule 14.11: the count of the output's bytes, or 1 for a short buffer, whatever the sheet holds
abbrev pub answer_if : Bool → List ℕ → Result ℕ Refusal
answer_if true output = Ok (length output)
answer_if false output = Err Refusal.ShortBuffer

-- rule 14.11: the output stands at the front of the buffer, and the bytes after it stay; a short buffer stays as it is
abbrev pub buffer_if : Bool → List ℕ → List ℕ → List ℕ
buffer_if true out output = put_at out 0 output
buffer_if false out output = out

-- the answer, and the buffer after it
unfoldable pub answer_to : List ℕ → List ℕ → Result ℕ Refusal
answer_to text out = answer_if (has_output_room out) (output_of text)

unfoldable pub buffer_after : List ℕ → List ℕ → List ℕ
buffer_after text out = buffer_if (has_output_room out) out (output_of text)
