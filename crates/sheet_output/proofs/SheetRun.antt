-- A well-formed sheet: its calls up to open, the words of its rounds, and its output.
use mathlib.Core.Path.{◌≡◌, refl, sym, ◌∙◌, ap, ap₂}
use mathlib.Core.Bool.{Bool, true, ◌&&◌}
use mathlib.Core.List.{List, [], ◌∷◌, ◌++◌, map}
use Prim.Native.Nat.{ℕ, suc, ◌+◌, ◌≤◌}
use native.Mathlib.Omega.{arith}
use lib.ListN.{length, get_or, take, drop, length-take, length-drop}
use lib.Seq.{take-append_seam, length-take-le}
use Rattle.market.specs.Answers.{answer_number, answered}
use Rattle.market.specs.Books.{day_number, every}
use Rattle.market.specs.Fresh.{fresh}
use Rattle.market.specs.Limits.{bidder_limit}
use Rattle.market.proofs.Tables.{number-above}
use Rattle.market.specs.declared.answer.Answer.{Answer}
use Rattle.market.specs.declared.answer.Outcome.{Outcome}
use Rattle.std.specs.Prelude.{Result, Ok, Err}
use Rattle.market.specs.declared.book.Book.{Book}
use Rattle.market.specs.declared.book.Kind.{Kind}
use Rattle.market.specs.declared.book.Kind.TheVariants.{Short, Long}
use Rattle.market.specs.declared.book.Period.{Period}
use Rattle.market.specs.declared.answer.Refusal.{Refusal}
use Rattle.text_numbers.specs.Put.{put_at}
use Rattle.call_funding.proofs.KeptDeposits.{next-keeps}
use Rattle.call_funding.specs.Deposits.{unless_refused, and_then}
use Rattle.call_open.specs.Open.{«open»}
use Rattle.call_open.proofs.OpenLaws.{open-lawful}
use Rattle.call_rules.proofs.StepLaws.{memory_kept}
use Rattle.call_rules.specs.Rule.{Lists, lists}
use Rattle.call_rules.specs.Steps.{outcome_of, words_after}
use Rattle.call_rules.specs.State.{SoundMemory}
use Rattle.round_bids.specs.Encoding.{encoded}
use Rattle.sheet_lines.specs.declared.part.Part.TheVariants.{Bidders, Paths, Bids}
use Rattle.sheet_form.proofs.WordLaws.{words-few}
use Rattle.sheet_form.proofs.RightLaws.{first-rises, first-words, second-words, bidders-rise, few-bidders}
use Rattle.sheet_form.specs.Form.{well_formed, form_of, sheet_kind}
use Rattle.sheet_form.specs.Reading.{sheet_in, bidder_line_at, path_line_at, section_says, part_at, after_part, rounds_at, at_bidders, at_paths, at_rounds, days_in}
use Rattle.sheet_form.specs.Sheet.{rounds_of, right_bidders}
use Rattle.sheet_form.specs.Words.{section_words}
use Rattle.sheet_form.specs.declared.rows.BidderLine.{BidderLine}
use Rattle.sheet_form.specs.declared.rows.PathLine.{PathLine}
use Rattle.sheet_calls.proofs.KeepDeposits.{deposits-keep, fresh_keeps}
use Rattle.sheet_calls.specs.Calls.{deposits, routes_of, quantities_of, empty_register, opened}
use Rattle.sheet_calls.specs.CallSlots.{is_listed}
use Rattle.award_sheet_parts.specs.AwardSheet.{is_bidder, refused_text}
use Rattle.sheet_rounds.specs.Rounds.{Progress, rounds_from, begun, ended, sheet_round, output_from}
use Rattle.sheet_output.specs.Output.{sheet_output}
use Rattle.sheet_rounds.proofs.RoundDone.{written-refused}
use Rattle.sheet_rounds.proofs.TwoRounds.{stopped, goes_on}

-- ---- The state that open leaves

module _ (kind : Kind) (period : Period) (bidders : List BidderLine) (paths : List PathLine) where
  abbrev made : Outcome
  made = fresh (routes_of paths) (length paths)

  abbrev funded : Outcome
  funded = deposits made.book bidders

  abbrev rest : Outcome
  rest = and_then funded (λ after. outcome_of («open» kind period (quantities_of paths)) after empty_register)

  -- open only reads the register
  open-keeps : SoundMemory funded.book empty_register → SoundMemory (outcome_of («open» kind period (quantities_of paths)) funded.book empty_register).book empty_register
  unfolding words_after «open»
  open-keeps state =
      let none : Lists = lists [] [] [] in
      memory_kept («open» kind period (quantities_of paths)) none (open-lawful kind period (quantities_of paths) none) funded.book empty_register state

  opened_with :
      (answer : Result Answer Refusal) → answer ≡ made.answer → answer_number (unless_refused answer made rest).answer ≡ 0
      → SoundMemory (unless_refused answer made rest).book empty_register
  opened_with (Ok answer) is none =
      let state = deposits-keep made.book empty_register bidders (fresh_keeps (routes_of paths) (length paths) (ap answer_number (sym is))) in
      next-keeps (λ (b : Book). SoundMemory b empty_register) funded.answer funded
      (outcome_of («open» kind period (quantities_of paths)) funded.book empty_register) state
      (open-keeps state)
  opened_with (Err refusal) is none = absurd (number-above refusal (ap answer_number is ∙ none))

  pub opened-state : answer_number (opened kind period bidders paths).answer ≡ 0 → SoundMemory (opened kind period bidders paths).book empty_register
  unfolding opened
  opened-state none = opened_with made.answer refl none

-- ---- The output after the calls up to open

stays : (done : Progress) (rounds : List (List ℕ)) → (answer_number done.outcome.answer ≡ 0 → ⊥) → rounds_from done rounds ≡ done
stays done [] some = refl
stays done (r ∷ rs) some =
    ap (λ (p : Progress). rounds_from p rs)
    (stopped (answer_number done.outcome.answer) done (sheet_round done.outcome.book done.words done.rounds r) some)
    ∙ stays done rs some

from-refused : (o : Outcome) (listed : List ℕ) (rounds : List (List ℕ)) → (answer_number o.answer ≡ 0 → ⊥) → output_from o listed rounds ≡ refused_text (answer_number o.answer)
unfolding output_from
from-refused o listed rounds some =
    ap (ended listed) (stays (begun o) rounds some) ∙ written-refused (answer_number o.answer) listed (begun o) some

from-answered : (o : Outcome) (listed r : List ℕ) (rs : List (List ℕ)) → answer_number o.answer ≡ 0 → output_from o listed (r ∷ rs) ≡ output_from (answered o.book) listed (r ∷ rs)
unfolding output_from
from-answered o listed r rs none =
    ap (λ (p : Progress). ended listed (rounds_from p rs))
    (goes_on (answer_number o.answer) (begun o) (sheet_round o.book empty_register [] r) none)

-- ---- The bidders listed

all_listed : (least : ℕ) (xs : List BidderLine) → right_bidders least xs ≡ true → every is_listed xs ≡ true
all_listed least [] right = refl
all_listed least (x ∷ xs) right =
    let first = first-rises least x xs right in
    ap₂ ◌&&◌ first.1 (all_listed (x.bidder + 1) xs first.2)

numbers-listed : (xs : List BidderLine) → every is_bidder (map (λ x. x.bidder) xs) ≡ every is_listed xs
numbers-listed [] = refl
numbers-listed (x ∷ xs) = ap (λ (t : Bool). is_listed x && t) (numbers-listed xs)

numbers-length : (xs : List BidderLine) → length (map (λ x. x.bidder) xs) ≡ length xs
numbers-length [] = refl
numbers-length (x ∷ xs) = ap suc (numbers-length xs)

-- ---- The sheet

module _ (text : List ℕ) (form : form_of text ≡ well_formed) where
  abbrev pub bidders : List BidderLine
  bidders = section_says Bidders bidder_line_at (at_bidders text)

  abbrev pub paths : List PathLine
  paths = section_says Paths path_line_at (at_paths text)

  abbrev pub period : Period
  period = record { first = day_number (get_or (days_in text) 0 0); last = day_number (get_or (days_in text) 1 0) }

  abbrev pub begins : Outcome
  begins = opened (sheet_kind text) period bidders paths

  abbrev pub listed : List ℕ
  listed = map (λ x. x.bidder) bidders

  abbrev first_words : List ℕ
  first_words = section_words (part_at Bids (at_rounds text))

  abbrev second_words : List ℕ
  second_words = section_words (after_part Bids (at_rounds text))

  pub rows_right : every is_listed bidders ≡ true
  rows_right = all_listed 0 bidders (bidders-rise text form)

  pub numbers-right : every is_bidder listed ≡ true
  numbers-right = numbers-listed bidders ∙ rows_right

  pub numbers-few : length listed ≤ bidder_limit
  numbers-few = omega (arith, numbers-length bidders, few-bidders text form)

  -- the words of its rounds
  short-rounds : sheet_kind text ≡ Short → map encoded (rounds_at (rounds_of (sheet_kind text)) (at_rounds text)) ≡ first_words ∷ []
  short-rounds short =
      ap (λ (k : Kind). map encoded (rounds_at (rounds_of k) (at_rounds text))) short
      ∙ ap (λ (w : List ℕ). w ∷ []) (sym (first-words text form))

  long-rounds : sheet_kind text ≡ Long → map encoded (rounds_at (rounds_of (sheet_kind text)) (at_rounds text)) ≡ first_words ∷ second_words ∷ []
  long-rounds long =
      ap (λ (k : Kind). map encoded (rounds_at (rounds_of k) (at_rounds text))) long
      ∙ ap₂ (λ (v w : List ℕ). v ∷ w ∷ []) (sym (first-words text form)) (sym (second-words text form long))

  -- its output
  whole-output : sheet_output (sheet_in text) ≡ output_from begins listed (map encoded (rounds_at (rounds_of (sheet_kind text)) (at_rounds text)))
  unfolding sheet_output sheet_in
  whole-output = refl

  pub sheet-refused : (answer_number begins.answer ≡ 0 → ⊥) → sheet_output (sheet_in text) ≡ refused_text (answer_number begins.answer)
  sheet-refused some = whole-output ∙ from-refused begins listed (map encoded (rounds_at (rounds_of (sheet_kind text)) (at_rounds text))) some

  pub sheet-short : answer_number begins.answer ≡ 0 → sheet_kind text ≡ Short → sheet_output (sheet_in text) ≡ output_from (answered begins.book) listed (first_words ∷ [])
  sheet-short none short =
      whole-output ∙ ap (output_from begins listed) (short-rounds short) ∙ from-answered begins listed first_words [] none

  pub sheet-long : answer_number begins.answer ≡ 0 → sheet_kind text ≡ Long → sheet_output (sheet_in text) ≡ output_from (answered begins.book) listed (first_words ∷ second_words ∷ [])
  sheet-long none long =
      whole-output ∙ ap (output_from begins listed) (long-rounds long) ∙ from-answered begins listed first_words (second_words ∷ []) none

-- ---- Words at the front of a list

pub words-taken :
    (section before : List ℕ) {out : List ℕ} {count : ℕ} → count ≡ length (section_words section) → out ≡ put_at before 0 (section_words section) → take count out ≡ section_words section
words-taken section before {out} {count} is put =
    let words = section_words section in
    ap (take count) put
    ∙ ap (λ (n : ℕ). take n (words ++ drop (0 + length words) before)) is
    ∙ take-append_seam words (drop (0 + length words) before)

-- a list that is as long as a section has room for its words
pub words-within : (section : List ℕ) {count size : ℕ} → count ≡ length (section_words section) → length section ≤ size → count ≤ size
words-within section is room = omega (arith, is, room, words-few section)

-- and a part of a sheet is no longer than the sheet
pub part-within : (n k : ℕ) (bytes : List ℕ) → length (take n (drop k bytes)) ≤ length bytes
part-within n k bytes = omega (arith, length-take n (drop k bytes), length-drop k bytes)

pub rest-within : (k : ℕ) (bytes : List ℕ) → length (drop k bytes) ≤ length bytes
rest-within k bytes = omega (arith, length-drop k bytes)

-- the first `count` elements of a list that has as many are `count`
pub counted-front : (out : List ℕ) (count : ℕ) → count ≤ length out → count ≡ length (take count out)
counted-front out count within = sym (length-take-le count out within)
