-- Laws about the calls up to open: open with the quantities counted, and call by call, as `opened` makes them.
use mathlib.Core.Path.{◌≡◌, refl, sym, ◌∙◌, ap}
use mathlib.Core.Bool.{true, false, false≢true}
use Rattle.std.specs.Prelude.{Result, is_err, Ok, Err}
use mathlib.Core.List.{List, map}
use Prim.Native.Nat.{ℕ, ◌*◌, ◌≤◌}
use native.Mathlib.Omega.{arith}
use lib.ListN.{length, take}
use lib.Seq.{length-take-le}
use Rattle.market.specs.Answers.{answer_number}
use Rattle.market.specs.Fresh.{fresh}
use Rattle.market.specs.Limits.{path_limit, quantity_words}
use Rattle.market.specs.declared.answer.Answer.{Answer}
use Rattle.market.specs.declared.answer.Outcome.{Outcome}
use Rattle.market.specs.declared.book.Book.{Book}
use Rattle.market.specs.declared.book.Kind.{Kind}
use Rattle.market.specs.declared.book.Period.{Period}
use Rattle.market.specs.declared.book.Route.{Route}
use Rattle.market.specs.declared.answer.Refusal.{Refusal}
use Rattle.call_rules.specs.Steps.{outcome_of}
use Rattle.call_funding.proofs.DepositLaws.{then-refused, then_next}
use Rattle.call_funding.specs.Deposits.{and_then}
use Rattle.call_open.specs.Open.{«open»}
use Rattle.sheet_form.specs.declared.rows.BidderLine.{BidderLine}
use Rattle.sheet_form.specs.declared.rows.PathRows.{PathRows}
use Rattle.sheet_calls.specs.Calls.{deposits, route_of, quantities_of, empty_register}
use Rattle.sheet_calls.specs.CallSlots.{open_with, opened_slots}
use Rattle.sheet_calls.proofs.CallLaws.{fresh-few}

-- ---- Open with the quantities of the paths counted

pub counted_words : (words : List ℕ) (count : ℕ) → length words ≡ path_limit * quantity_words → count ≤ path_limit → count * quantity_words ≡ length (take (count * quantity_words) words)
counted_words words count long few = sym (length-take-le (count * quantity_words) words (omega (arith, long)))

module _ (b : Book) (kind : Kind) (period : Period) (paths : PathRows) (words : List ℕ) (are : words ≡ quantities_of paths.lines) where
  pub open_is : (o : Outcome) → o ≡ outcome_of («open» kind period (take (paths.count * quantity_words) words)) b empty_register → o ≡ open_with b kind period paths
  open_is o is = is ∙ ap (λ (l : List ℕ). outcome_of («open» kind period (take (paths.count * quantity_words) l)) b empty_register) are

-- ---- Call by call, as `opened` makes them

-- an answer that is no refusal has the number 0
pub answered-number : (answer : Result Answer Refusal) → is_err answer ≡ false → answer_number answer ≡ 0
answered-number (Ok answer) none = refl
answered-number (Err refusal) none = absurd (false≢true (sym none))

module _ (kind : Kind) (period : Period) (bidders : List BidderLine) (paths : PathRows) (routes : List Route) (are : routes ≡ map route_of paths.lines) (made : Outcome)
    (from-routes : made ≡ fresh routes paths.count) where
  abbrev book-made : Outcome
  book-made = fresh (map route_of paths.lines) paths.count

  abbrev is_made : made ≡ book-made
  is_made = from-routes ∙ ap (λ (l : List Route). fresh l paths.count) are

  abbrev opens : Book → Outcome
  opens b = open_with b kind period paths

  abbrev funds : Book → Outcome
  funds b = and_then (deposits b bidders) opens

  pub book-refused : is_err made.answer ≡ true → made ≡ opened_slots kind period bidders paths
  unfolding opened_slots
  book-refused some = then-refused made book-made is_made funds some

  module _ (none : is_err made.answer ≡ false) where
    pub few-paths : paths.count ≤ path_limit
    few-paths = fresh-few (map route_of paths.lines) paths.count (sym (ap (λ (o : Outcome). answer_number o.answer) is_made) ∙ answered-number made.answer none)

    module _ (funded : Outcome) (is-funded : funded ≡ deposits made.book bidders) where
      pub deposits-refused : is_err funded.answer ≡ true → funded ≡ opened_slots kind period bidders paths
      unfolding opened_slots
      deposits-refused some =
          then-refused funded (deposits made.book bidders) is-funded opens some
          ∙ then_next made book-made is_made funds none

      pub deposits-made : is_err funded.answer ≡ false → opens funded.book ≡ opened_slots kind period bidders paths
      unfolding opened_slots
      deposits-made zeroth =
          then_next funded (deposits made.book bidders) is-funded opens zeroth
          ∙ then_next made book-made is_made funds none
