-- What is read of a well-formed sheet at the places that were found, and the output that follows from it.
use mathlib.Core.Path.{◌≡◌, refl, sym, ◌∙◌, ap, ap₂, subst}
use mathlib.Core.Bool.{true}
use mathlib.Core.List.{List, [], ◌∷◌, map}
use Prim.Native.Nat.{ℕ, ◌≤◌}
use native.Mathlib.Omega.{arith}
use lib.ListN.{length, take, drop}
use Rattle.market.proofs.KindLaws.{map-take}
use Rattle.market.specs.Answers.{answer_number, answered}
use Rattle.market.specs.Books.{every}
use Rattle.market.specs.Limits.{bidder_limit}
use Rattle.market.specs.declared.answer.Outcome.{Outcome}
use Rattle.market.specs.declared.book.Kind.{Kind}
use Rattle.market.specs.declared.book.Kind.TheVariants.{Short, Long}
use Rattle.market.specs.declared.book.Period.{Period}
use Rattle.call_rules.specs.State.{SoundMemory}
use Rattle.sheet_lines.specs.Lines.{count_said, days_place, title_used}
use Rattle.sheet_lines.specs.declared.part.Part.TheVariants.{Bidders, Paths, Bids}
use Rattle.sheet_form.proofs.FormLaws.{title-long}
use Rattle.sheet_form.proofs.PlaceLaws.{paths-place}
use Rattle.sheet_form.proofs.RightLaws.{says-count, title-some, few-bidders}
use Rattle.sheet_form.specs.Form.{well_formed, PlacesAre, form_of, sheet_kind}
use Rattle.sheet_form.specs.Reading.{sheet_in, bidder_line_at, path_line_at, section_says, part_at, after_part, at_bidders, at_rounds}
use Rattle.sheet_form.specs.Slots.{bidder_rows, path_slots}
use Rattle.sheet_form.specs.Words.{section_words}
use Rattle.sheet_form.specs.declared.form.Found.{Found}
use Rattle.sheet_form.specs.declared.rows.BidderLine.{BidderLine}
use Rattle.sheet_form.specs.declared.rows.BidderRows.{BidderRows}
use Rattle.sheet_form.specs.declared.rows.PathRows.{PathRows}
use Rattle.sheet_calls.proofs.CallLaws.{rows_taken, rows-listed, slots-opened}
use Rattle.sheet_calls.specs.CallSlots.{is_listed, opened_slots}
use Rattle.sheet_calls.specs.Calls.{empty_register}
use Rattle.award_sheet_parts.specs.AwardSheet.{is_bidder, refused_text}
use Rattle.sheet_rounds.specs.Rounds.{output_from}
use Rattle.sheet_output.specs.Output.{sheet_output}
use Rattle.sheet_output.proofs.SheetRun.{opened-state, bidders, paths, period, begins, listed, rows_right, numbers-right, numbers-few, sheet-refused, sheet-short, sheet-long}

-- ---- Places

module _ {text : List ℕ} {found : Found} (form : form_of text ≡ well_formed) (places : PlacesAre text (title_used text) found) where
  pub paths-inside : found.paths ≤ length text
  paths-inside = omega (arith, places.first, places.second, places.inside)

  pub bidders-inside : found.bidders ≤ length text
  bidders-inside = omega (arith, places.bidders, places.paths, paths-inside)

  bidders-place : drop found.bidders text ≡ at_bidders text
  bidders-place = ap (λ (n : ℕ). drop n text) places.bidders

  pub count-few : count_said Bidders (drop found.bidders text) ≤ bidder_limit
  count-few =
      omega (arith, says-count Bidders bidder_line_at (at_bidders text), few-bidders text form, ap (count_said Bidders) bidders-place)

  pub days-inside : days_place ≤ length text
  days-inside =
      title-long text (title_used text) refl
      (λ none. let bad : ⊥ = omega (arith, none, title-some text form) in bad)
      (omega (arith, places.bidders, bidders-inside))

-- ---- What was read

pub record Read (text : List ℕ) (found : Found) (rows : BidderRows) (slots : PathRows) (kind : Kind) (days : Period) : Type 0 where
  pub form : form_of text ≡ well_formed
  pub places : PlacesAre text (title_used text) found
  pub rows_are : rows ≡ bidder_rows (section_says Bidders bidder_line_at (drop found.bidders text))
  pub slots-are : slots ≡ path_slots (section_says Paths path_line_at (drop found.paths text))
  pub kind-is : kind ≡ sheet_kind text
  pub days-are : days ≡ period text form

module _ {text : List ℕ} {found : Found} {rows : BidderRows} {slots : PathRows} {kind : Kind} {days : Period} (read : Read text found rows slots kind days) where
  abbrev listed_rows : List BidderLine
  listed_rows = bidders text read.form

  rows_is : rows ≡ bidder_rows listed_rows
  rows_is = read.rows_are ∙ ap (λ (t : List ℕ). bidder_rows (section_says Bidders bidder_line_at t)) (bidders-place read.form read.places)

  slots-is : slots ≡ path_slots (paths text read.form)
  slots-is = read.slots-are ∙ ap (λ (t : List ℕ). path_slots (section_says Paths path_line_at t)) (paths-place text found read.places)

  pub rows_few : rows.count ≤ bidder_limit
  rows_few = omega (arith, few-bidders text read.form, ap (λ (r : BidderRows). r.count) rows_is)

  pub all-rows : every is_listed rows.lines ≡ true
  all-rows = ap (λ (r : BidderRows). every is_listed r.lines) rows_is ∙ rows-listed listed_rows (rows_right text read.form)

  read-bidders : take rows.count rows.lines ≡ listed_rows
  read-bidders = ap (λ (r : BidderRows). take r.count r.lines) rows_is ∙ rows_taken listed_rows (few-bidders text read.form)

  module _ {o : Outcome} (opens : o ≡ opened_slots kind days (take rows.count rows.lines) slots) where
    start_is : o ≡ begins text read.form
    start_is =
        opens
        ∙ ap₂ (λ (xs : List BidderLine) (p : PathRows). opened_slots kind days xs p) read-bidders slots-is
        ∙ ap₂ (λ (k : Kind) (d : Period). opened_slots k d listed_rows (path_slots (paths text read.form))) read.kind-is read.days-are
        ∙ slots-opened (sheet_kind text) (period text read.form) listed_rows (paths text read.form)

    number_is : answer_number o.answer ≡ answer_number (begins text read.form).answer
    number_is = ap (λ (x : Outcome). answer_number x.answer) start_is

    pub run-refused : {n : ℕ} → n ≡ answer_number o.answer → (n ≡ 0 → ⊥) → sheet_output (sheet_in text) ≡ refused_text n
    run-refused is some =
        let same = is ∙ number_is in sheet-refused text read.form (λ none. some (same ∙ none)) ∙ ap refused_text (sym same)

-- ---- The rounds

-- open was answered
pub record Opened (text : List ℕ) (found : Found) (rows : BidderRows) (slots : PathRows) (kind : Kind) (days : Period) (o : Outcome) (numbers : List ℕ) : Type 0 where
  pub read : Read text found rows slots kind days
  pub opens : o ≡ opened_slots kind days (take rows.count rows.lines) slots
  pub none : answer_number o.answer ≡ 0
  pub numbers-are : numbers ≡ map (λ x. x.bidder) rows.lines

module _ {text : List ℕ} {found : Found} {rows : BidderRows} {slots : PathRows} {kind : Kind} {days : Period} {o : Outcome} {numbers : List ℕ}
    (done : Opened text found rows slots kind days o numbers) where
  abbrev form : form_of text ≡ well_formed
  form = done.read.form

  begun : o ≡ begins text form
  begun = start_is done.read done.opens

  answers : answer_number (begins text form).answer ≡ 0
  answers = sym (number_is done.read done.opens) ∙ done.none

  pub run-state : SoundMemory o.book empty_register
  run-state =
      subst (λ (x : Outcome). SoundMemory x.book empty_register) (sym begun)
      (opened-state (sheet_kind text) (period text form) (bidders text form) (paths text form) answers)

  listed-is : take rows.count numbers ≡ listed text form
  listed-is =
      ap (take rows.count) done.numbers-are
      ∙ sym (map-take (λ x. x.bidder) rows.count rows.lines)
      ∙ ap (map (λ x. x.bidder)) (read-bidders done.read)

  pub listed-all : every is_bidder (take rows.count numbers) ≡ true
  listed-all = ap (every is_bidder) listed-is ∙ numbers-right text form

  pub listed-few : length (take rows.count numbers) ≤ bidder_limit
  listed-few = omega (arith, ap length listed-is, numbers-few text form)

  from-begun : (rounds : List (List ℕ)) → output_from (answered (begins text form).book) (listed text form) rounds ≡ output_from (answered o.book) (take rows.count numbers) rounds
  from-begun rounds = ap₂ (λ (x : Outcome) (l : List ℕ). output_from (answered x.book) l rounds) (sym begun) (sym listed-is)

  pub run_short : kind ≡ Short → sheet_output (sheet_in text) ≡ output_from (answered o.book) (take rows.count numbers) (section_words (part_at Bids (at_rounds text)) ∷ [])
  run_short short = sheet-short text form answers (sym done.read.kind-is ∙ short) ∙ from-begun (section_words (part_at Bids (at_rounds text)) ∷ [])

  pub run_long :
      kind ≡ Long
      → sheet_output (sheet_in text)
      ≡ output_from (answered o.book) (take rows.count numbers) (section_words (part_at Bids (at_rounds text)) ∷ section_words (after_part Bids (at_rounds text)) ∷ [])
  run_long long =
      sheet-long text form answers (sym done.read.kind-is ∙ long)
      ∙ from-begun (section_words (part_at Bids (at_rounds text)) ∷ section_words (after_part Bids (at_rounds text)) ∷ [])
