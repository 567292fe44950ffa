-- The promise (rules 12.1 to 12.11), proved of every fresh book that is answered, every register of 6,144 words or more, whatever they are, and
-- every list of the eleven calls, refused ones included.
use mathlib.Core.Path.{◌≡◌, refl, sym, ◌∙◌, ap, subst}
use mathlib.Core.List.{List, []}
use Prim.Native.Nat.{ℕ, ◌≤◌}
use lib.IntN.{ℤ, pos, ◌+ℤ◌, ◌-ℤ◌, +ℤ_idl}
use lib.ListN.{length}
use Rattle.market.specs.Answers.{first_of, answer_number, no_refusal}
use Rattle.market.specs.Fresh.{fresh_refusals, fresh_book}
use Rattle.market.specs.Limits.{register_words}
use Rattle.market.specs.declared.book.Book.{Book}
use Rattle.market.specs.declared.book.Entry.{Entry}
use Rattle.market.specs.declared.book.Route.{Route}
use Rattle.register.specs.Refusals.{counted_entries}
use Rattle.call_rules.proofs.SoundStates.{fresh-state}
use Rattle.call_rules.specs.Money.{worth}
use Rattle.call_rules.specs.State.{SoundMemory}
use Rattle.engine.specs.Lent.{Lent}
use Rattle.engine.specs.declared.calls.Call.{Call}
use Rattle.promise.specs.Answered.{IfRound, ListsTold, NoRivalAbove, OwnAward, BidsWithin, BiddersWithin}
use Rattle.promise.specs.Promise.{NotUnsound, Promise}
use Rattle.promise.specs.Runs.{Request, Made, engine_made, engine_run, rules_run}
use Rattle.promise.specs.Sums.{all_in, all_out}
use Rattle.promise.proofs.RoundAnswers.{round_made, lists-told, no-rival-above, own-award, bids-within, bidders-within}
use Rattle.promise.proofs.RunLaws.{each-call, run-same, step-not-unsound, run-money}

-- a fact of each answered round holds of each call that is an answered round
of-rounds :
    (holds :
    Made → Type 0) → ((b : Book) (words : List ℕ) (l : Lent) → answer_number (round_made b words l).reply.answer ≡ 0 → holds (round_made b words l)) → (b : Book) (words : List ℕ) (r : Request)
    → IfRound holds (engine_made b words r)
of-rounds holds fact b words r is =
    subst (λ (what : Call). answer_number (made what).reply.answer ≡ 0 → holds (made what)) (sym is) (fact b words r.lent)
  where
    made : Call → Made
    made what = engine_made b words (record { what = what; lent = r.lent })

module _ (routes : List Route) (paths : ℕ) (words : List ℕ) (calls : List Request) (answered : first_of (fresh_refusals routes paths) ≡ no_refusal) (long : register_words ≤ length words) where
  abbrev start : Book
  start = fresh_book routes paths

  sound : SoundMemory start words
  sound = fresh-state routes paths words answered long

  -- it counts no entry, so that no word of the register is read
  none-counted : counted_entries start words ≡ []
  unfolding fresh_book
  none-counted = refl

  -- and there is no money in it
  no-money : worth start ≡ pos 0
  unfolding fresh_book
  no-money = refl

  pub promise : Promise routes paths words calls
  promise =
      record {
        by-the-rules = run-same start words sound calls ∙ ap (λ (es : List Entry). rules_run start es calls) none-counted;
        never-unsound = each-call NotUnsound step-not-unsound start words sound calls;
        lists-told = each-call (IfRound ListsTold) (λ b now state. of-rounds ListsTold lists-told b now) start words sound calls;
        own-award = each-call (IfRound OwnAward) (λ b now state. of-rounds OwnAward own-award b now) start words sound calls;
        best-award = each-call (IfRound NoRivalAbove) (λ b now state. of-rounds NoRivalAbove no-rival-above b now) start words sound calls;
        bids-within = each-call (IfRound BidsWithin) (λ b now state. of-rounds BidsWithin bids-within b now) start words sound calls;
        bidders-within = each-call (IfRound BiddersWithin) (λ b now state. of-rounds BiddersWithin bidders-within b now) start words sound calls;
        money =
            run-money start words sound calls
            ∙ ap (λ (z : ℤ). z +ℤ pos (all_in (engine_run start words calls)) -ℤ pos (all_out (engine_run start words calls))) no-money
            ∙ ap (λ (z : ℤ). z -ℤ pos (all_out (engine_run start words calls))) (+ℤ_idl (pos (all_in (engine_run start words calls))));
      }
