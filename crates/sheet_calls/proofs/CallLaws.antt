-- The calls made with the lines in slots are the calls made with the lines of the sheet.
use mathlib.Core.Path.{◌≡◌, refl, sym, ◌∙◌, ap, ap₂}
use mathlib.Core.Bool.{true}
use mathlib.Core.List.{List, ◌++◌, map, map-append}
use Prim.Native.Nat.{ℕ, ◌*◌, ◌-◌, ◌≤◌}
use lib.ListN.{length, take, replicate, length-map}
use lib.Seq.{take_all, take_at, take-append_seam}
use borrow.Author.Tests.{not-false}
use Rattle.market.proofs.Every.{every_append, every_take, every-replicate}
use Rattle.market.proofs.KindLaws.{map-take, map-replicate}
use Rattle.market.proofs.SoundLaws.{count-within}
use Rattle.market.proofs.Tables.{none-refused, none-hold}
use Rattle.market.specs.Answers.{first_of, answer_number, answered}
use Rattle.market.specs.Books.{every}
use Rattle.market.specs.Fresh.{fresh_refusals, fresh_book, no_book, fresh}
use Rattle.market.specs.Limits.{bidder_limit, path_limit, quantity_words}
use Rattle.market.specs.Sound.{sound_path_count}
use Rattle.market.specs.declared.answer.Answer.{Answer}
use Rattle.market.specs.declared.answer.Outcome.{Outcome}
use Rattle.std.specs.Prelude.{Result, Ok, Err}
use Rattle.market.specs.declared.book.Book.{Book}
use Rattle.market.specs.declared.book.Kind.{Kind}
use Rattle.market.specs.declared.book.Period.{Period}
use Rattle.market.specs.declared.book.Route.{Route}
use Rattle.market.specs.declared.answer.Refusal.{Refusal}
use Rattle.call_rules.specs.Steps.{outcome_of}
use Rattle.call_funding.specs.Deposits.{unless_refused, and_then}
use Rattle.call_open.specs.Open.{«open»}
use Rattle.sheet_form.specs.Slots.{filled, no_bidder_line, no_path_line, bidder_rows, path_slots}
use Rattle.sheet_form.specs.declared.rows.BidderLine.{BidderLine}
use Rattle.sheet_form.specs.declared.rows.PathLine.{PathLine}
use Rattle.sheet_calls.specs.Calls.{deposits, route_of, routes_of, quantities_of, empty_register, opened}
use Rattle.sheet_calls.specs.CallSlots.{is_listed, quantities_in, opened_slots}
use Rattle.sheet_calls.proofs.SlotLaws.{quantities-length, quantities-append}

-- ---- A fresh book has at most 16 paths, if the call is answered

pub fresh-few : (routes : List Route) (n : ℕ) → answer_number (fresh routes n).answer ≡ 0 → n ≤ path_limit
unfolding fresh
fresh-few routes n none =
    let free = none-refused no_book (first_of (fresh_refusals routes n)) (answered (fresh_book routes n)) none in
    count-within n (not-false (sound_path_count n) (none-hold (fresh_refusals routes n) free).0)

-- ---- Images of slots

module _ {A B : Type 0} (f : A → B) where
  map-filled : (slots : ℕ) (none : A) (l : List A) → map f (filled slots none l) ≡ filled slots (f none) (map f l)
  map-filled slots none l =
      map-append f (take slots l) (replicate (slots - length l) none)
      ∙ ap₂ ◌++◌ (map-take f slots l)
      (map-replicate f (slots - length l) none ∙ ap (λ (n : ℕ). replicate (slots - n) (f none)) (sym (length-map l f)))

-- ---- As many slots as lines, or more

module _ {A : Type 0} (slots : ℕ) (none : A) (l : List A) (few : length l ≤ slots) where
  filled-few : filled slots none l ≡ l ++ replicate (slots - length l) none
  filled-few = ap (λ (front : List A). front ++ replicate (slots - length l) none) (take_all slots l few)

  filled-taken : take (length l) (filled slots none l) ≡ l
  filled-taken = ap (take (length l)) filled-few ∙ take-append_seam l (replicate (slots - length l) none)

pub rows_taken : (xs : List BidderLine) → length xs ≤ bidder_limit → take (bidder_rows xs).count (bidder_rows xs).lines ≡ xs
rows_taken xs few = filled-taken bidder_limit no_bidder_line xs few

pub rows-listed : (xs : List BidderLine) → every is_listed xs ≡ true → every is_listed (bidder_rows xs).lines ≡ true
rows-listed xs listed =
    every_append is_listed (take bidder_limit xs) (replicate (bidder_limit - length xs) no_bidder_line)
    (every_take is_listed bidder_limit xs listed)
    (every-replicate is_listed (bidder_limit - length xs) no_bidder_line refl)

quantities-filled : (ps : List PathLine) → length ps ≤ path_limit → quantities_in (length ps) (filled path_limit no_path_line ps) ≡ quantities_of ps
quantities-filled ps few =
    let rest = replicate (path_limit - length ps) no_path_line in
    ap (quantities_in (length ps)) (filled-few path_limit no_path_line ps few)
    ∙ ap (take (length ps * quantity_words)) (quantities-append ps rest)
    ∙ take_at (quantities_of ps) (quantities_of rest) (length ps * quantity_words) (quantities-length ps)

-- ---- The whole

unless-alike : (answer : Result Answer Refusal) (done a b : Outcome) → (answer_number answer ≡ 0 → a ≡ b) → unless_refused answer done a ≡ unless_refused answer done b
unless-alike (Ok answer) done a b same = same refl
unless-alike (Err refusal) done a b same = refl

pub slots-opened : (kind : Kind) (period : Period) (bidders : List BidderLine) (ps : List PathLine) → opened_slots kind period bidders (path_slots ps) ≡ opened kind period bidders ps
unfolding opened_slots opened
slots-opened kind period bidders ps =
    let made = fresh (routes_of ps) (length ps) in
    let calls : List ℕ → Book → Outcome = λ quantities b. and_then (deposits b bidders) (λ after. outcome_of («open» kind period quantities) after empty_register) in
    let slots = quantities_in (length ps) (filled path_limit no_path_line ps) in
    ap (λ (l : List Route). and_then (fresh l (length ps)) (calls slots)) (map-filled route_of path_limit no_path_line ps)
    ∙ unless-alike made.answer made (calls slots made.book) (calls (quantities_of ps) made.book)
    (λ none. ap (λ (l : List ℕ). calls l made.book) (quantities-filled ps (fresh-few (routes_of ps) (length ps) none)))
