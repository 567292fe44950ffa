-- Refused before the awards (`first-refuses`), or because the winners do not fit (`decides`), with everything as it was
-- (`stays`); or answered (`done`), where there is room for the winners (`room-is`), as there is where there is room for
-- every bid (`room-for-all`). Without an early refusal everything holds that the later calls require (`early-cleared`).
use Rattle.std.specs.Prelude.{Err}
use Rattle.market.proofs.Tables.{second-decides}
use Rattle.market.specs.Answers.{Row, first_of, refused, no_refusal}
use Rattle.market.specs.Books.{every, in_megawatts, with_front}
use Rattle.market.specs.Limits.{entry_limit, bid_limit}
use Rattle.market.specs.Sound.{sound_book, sound_quantity, period_of}
use Rattle.market.specs.declared.answer.Outcome.{Outcome}
use Rattle.market.specs.declared.book.Book.{Book}
use Rattle.market.specs.declared.answer.Refusal.{Refusal}
use Rattle.call_round.specs.declared.worked.Worked.{Worked}
use mathlib.Core.Path.{◌≡◌, refl, sym, ◌∙◌, ap, ap₂, subst}
use mathlib.Core.Bool.{Bool, true, false, cond, not, true≢false}
use mathlib.Core.List.{List, ◌++◌}
use Prim.Native.Nat.{ℕ, ◌+◌, ◌-◌, ◌≤◌}
use native.Mathlib.Omega.{arith}
use lib.Dec.{leb}
use lib.ListN.{length}
use borrow.Author.Tests.{leb-true, le-leb}
use Rattle.register.specs.Refusals.{counted_entries}
use Rattle.register.specs.Words.{entries_written}
use Rattle.round_awards.specs.Tables.{won_table}
use Rattle.round_awards.specs.declared.Awarded.{Awarded}
use Rattle.round_bids.specs.Bids.{Bid, bids_of}
use Rattle.round_entries.proofs.WinnerLaws.{winners-within}
use Rattle.round_entries.specs.Entries.{winners_in}
use Rattle.call_rules.proofs.Decides.{first-refuses, refuses, words-stay, list-stays, scratch-stays, takes, words-change, list-changes, scratch-changes}
use Rattle.call_rules.specs.Rule.{Rule}
use Rattle.call_rules.specs.Steps.{verdict_of, outcome_of, words_after, to_answers, to_results, list_after, ScratchAfter}
use Rattle.call_round.specs.Ready.{Early, WorkedOut, AwardedOut}
use Rattle.call_round.specs.Round.{won_now, entries_now, bid_answers_now, path_answers_now, room_refusals, early_refusals, round_outcome, round}
use Rattle.call_round.proofs.Cleared.{early-cleared}
use Rattle.call_round.proofs.ReadyLaws.{sound, listed, few, marks-long, awards-are}
use Rattle.call_round.proofs.RoundBounds.{offered-quantities}
use Rattle.call_round.proofs.RoundLaws.{winners-are}
use Rattle.call_round.proofs.round.Goals as goal

-- a round as its rule decides it
module _ (b : Book) (words bid_words answers results scratch : List ℕ) where
  abbrev bids : List Bid
  bids = bids_of bid_words

  abbrev rule : Rule
  rule = round bid_words answers results scratch

  abbrev rows : List Row
  rows = early_refusals b words bid_words answers results scratch

  abbrev fits : Bool
  fits = leb (b.entries + length (entries_now b bids)) entry_limit

  -- refused, with everything as it was
  stays :
      {k : Refusal} → Err k ≡ verdict_of rule b words → {x : List ℕ} → x ≡ scratch
      → (refused b k ≡ outcome_of rule b words)
      × ((words ≡ words_after rule b words)
      × ((answers ≡ list_after to_answers rule b words answers)
      × ((results ≡ list_after to_results rule b words results) × ScratchAfter rule b words scratch x)))
  stays {k} is same = (
    refuses rule b words (Err k) is refl,
    (
      words-stay rule b words (Err k) is refl,
      (
        list-stays rule b words (Err k) is refl to_answers answers,
        (
          list-stays rule b words (Err k) is refl to_results results,
          subst (ScratchAfter rule b words scratch) (sym same) (scratch-stays rule b words (Err k) is refl scratch),
        ),
      ),
    ),
  )

  -- without an early refusal the room decides
  decides : first_of rows ≡ no_refusal → (t : Bool) → fits ≡ t → verdict_of rule b words ≡ cond (not t) (Err Refusal.RegisterFull) no_refusal
  unfolding verdict_of round
  decides none t is =
      second-decides rows (room_refusals b bids) none
      ∙ ap (λ (u : Bool). cond (not u) (Err Refusal.RegisterFull) no_refusal) is

  -- answered, with the lists as the round leaves them and any words in the scratch
  done :
      first_of rows ≡ no_refusal → fits ≡ true → {o : Outcome} {w a r : List ℕ} (x : List ℕ) → o ≡ round_outcome b bids
      → w ≡ entries_written words (counted_entries b words ++ entries_now b bids)
      → a ≡ with_front (bid_answers_now b bids) answers → r ≡ with_front (path_answers_now b bids) results → length x ≡ length scratch
      → (o ≡ outcome_of rule b words)
      × ((w ≡ words_after rule b words)
      × ((a ≡ list_after to_answers rule b words answers) × ((r ≡ list_after to_results rule b words results) × ScratchAfter rule b words scratch x)))
  unfolding round
  done none fit x eo ew ea er ex =
      let is = sym (decides none true fit) in (
        eo ∙ takes rule b words no_refusal is refl,
        (
          ew ∙ words-change rule b words no_refusal is refl,
          (
            ea ∙ list-changes rule b words no_refusal is refl to_answers answers,
            (er ∙ list-changes rule b words no_refusal is refl to_results results, scratch-changes rule b words no_refusal is refl scratch x ex),
          ),
        ),
      )

  -- refused before the awards
  refused-early : {k : Refusal} → first_of rows ≡ Err k → Err k ≡ verdict_of rule b words
  unfolding verdict_of round
  refused-early is = first-refuses rows (room_refusals b bids) is

  -- nothing is refused before the awards
  module _ (none : first_of rows ≡ no_refusal) where
    early : Early b words bid_words answers results scratch
    early = early-cleared _ _ _ _ _ _ none

    ok : sound_book b ≡ true
    ok = sound _ _ _ _ _ _ early

    -- and marks and offers are worked out
    module _ (w : Worked) (worked : WorkedOut b bid_words w) where
      offers-sound : every sound_quantity (in_megawatts w.offered) ≡ true
      offers-sound = ap (every sound_quantity) worked.offers ∙ offered-quantities b ok

      long : length w.marks ≡ bid_limit
      long = marks-long _ _ ok early.list _ worked

      winners : winners_in (won_now b bids) (length bids) ≡ length (entries_now b bids)
      winners = winners-are (period_of b.stage) (won_now b bids) bids

      -- where there is room for all bids there is room for the winners
      room-for-all : w.bids ≤ entry_limit - b.entries → fits ≡ true
      room-for-all room =
          let most = winners-within (won_now b bids) (length bids) in
          let counted = early.lent.register.count in
          le-leb (b.entries + length (entries_now b bids)) entry_limit (omega (arith, room, worked.count, most, winners, counted))

      -- so where there is none for the winners it is not sure that there is any
      unsure : fits ≡ false → leb w.bids (entry_limit - b.entries) ≡ false
      unsure over = go (leb w.bids (entry_limit - b.entries)) refl
        where
          go : (t : Bool) → leb w.bids (entry_limit - b.entries) ≡ t → t ≡ false
          go true e = absurd (true≢false (sym (room-for-all (leb-true _ _ e)) ∙ over))
          go false e = refl

      -- the room for the winners of these awards is the room for the rule's
      room-is : (a : Awarded) → AwardedOut w bid_words a → leb (b.entries + winners_in (in_megawatts a.won) w.bids) entry_limit ≡ fits
      room-is a out =
          let won = out.won ∙ ap won_table (awards-are _ _ ok early.list _ worked) in
          ap (λ (n : ℕ). leb (b.entries + n) entry_limit) (ap₂ winners_in won worked.count ∙ winners)

pub returns-in-Err : goal.returns-in-Err
returns-in-Err c =
    let a = c.args in
    let is = refused-early a.book a.words.now a.bids.now a.answers.now a.results.now a.scratch.now (sym c.check.ensures ∙ c.in-Err.is) in
    let s = stays a.book a.words.now a.bids.now a.answers.now a.results.now a.scratch.now is {x = a.scratch.now} refl in
    record { outcome = s.0; register = s.1.0; bids = s.1.1.0; paths = s.1.1.1.0; scratch = s.1.1.1.1 }

pub work_out-worked-requires : goal.work_out-worked-requires
work_out-worked-requires c =
    let a = c.args in
    let none = sym c.check.ensures ∙ c.in_default.is in
    record {
      book_value = ok a.book a.words.now a.bids.now a.answers.now a.results.now a.scratch.now none;
      bid_list = listed _ _ _ _ _ _ (early a.book a.words.now a.bids.now a.answers.now a.results.now a.scratch.now none);
    }

pub overflow_sub-sure : goal.overflow_sub-sure
overflow_sub-sure c =
    let a = c.args in
    let none = sym c.check.ensures ∙ c.in_default.is in
    omega (arith, (early a.book a.words.now a.bids.now a.answers.now a.results.now a.scratch.now none).lent.register.count)

pub award-awarded-requires : goal.award-awarded-requires
award-awarded-requires c =
    let a = c.args in
    let none = sym c.check.ensures ∙ c.in_default.is in
    let e = early a.book a.words.now a.bids.now a.answers.now a.results.now a.scratch.now none in
    let w = c.work_out-worked.ensures in
    let worked : WorkedOut a.book a.bids.now c.work_out-worked.result = record { marks = w.marks; count = w.bids; offers = w.offered } in
    record {
      bid_list = listed _ _ _ _ _ _ e;
      bids_value = w.bids;
      marks_len = long a.book a.words.now a.bids.now a.answers.now a.results.now a.scratch.now none _ worked;
      offered_value = offers-sound a.book a.words.now a.bids.now a.answers.now a.results.now a.scratch.now none _ worked;
      scratch_words_in_bounds = e.lent.scratch-long;
    }

pub has_room-requires : goal.has_room-requires
has_room-requires c =
    let a = c.args in
    let none = sym c.check.ensures ∙ c.in_default.is in
    let e = early a.book a.words.now a.bids.now a.answers.now a.results.now a.scratch.now none in
    let most = few _ _ (ok a.book a.words.now a.bids.now a.answers.now a.results.now a.scratch.now none) e.list in
    record {
      entries_le_entry_limit = e.lent.register.count;
      count_le_bid_limit = omega (arith, c.work_out-worked.ensures.bids, most);
    }

pub returns-then-not-has_room : goal.returns-then-not-has_room
returns-then-not-has_room c =
    let a = c.args in
    let none = sym c.check.ensures ∙ c.in_default.is in
    let w = c.work_out-worked.ensures in
    let worked : WorkedOut a.book a.bids.now c.work_out-worked.result = record { marks = w.marks; count = w.bids; offers = w.offered } in
    let award = c.award-awarded.ensures in
    let room = room-is a.book a.words.now a.bids.now a.answers.now a.results.now a.scratch.now none _ worked _ award.awards in
    let over = sym (c.has_room.ensures ∙ room) ∙ c.if-not-has_room.true in
    let is = sym (decides a.book a.words.now a.bids.now a.answers.now a.results.now a.scratch.now none false over) in
    let kept = award.apart (unsure a.book a.words.now a.bids.now a.answers.now a.results.now a.scratch.now none _ worked over) in
    let s = stays a.book a.words.now a.bids.now a.answers.now a.results.now a.scratch.now is kept in
    record { outcome = s.0; register = s.1.0; bids = s.1.1.0; paths = s.1.1.1.0; scratch = s.1.1.1.1 }

pub answered-requires : goal.answered-requires
answered-requires c =
    let a = c.args in
    let none = sym c.check.ensures ∙ c.in_default.is in
    let e = early a.book a.words.now a.bids.now a.answers.now a.results.now a.scratch.now none in
    let w = c.work_out-worked.ensures in
    let worked : WorkedOut a.book a.bids.now c.work_out-worked.result = record { marks = w.marks; count = w.bids; offers = w.offered } in
    let out = c.award-awarded.ensures.awards in
    let room = room-is a.book a.words.now a.bids.now a.answers.now a.results.now a.scratch.now none _ worked _ out in
    let fit = sym (c.has_room.ensures ∙ room) ∙ c.if-not-has_room.false in
    record {
      lent_register = e.lent.register;
      bid_answer_words_in_bounds = e.lent.answers-long;
      path_answer_words_in_bounds = e.lent.results-long;
      right_list = e.list;
      worked_out = worked;
      awarded_out = out;
      bids_bound = leb-true _ _ fit;
    }

pub returns : goal.returns
returns c =
    let a = c.args in
    let none = sym c.check.ensures ∙ c.in_default.is in
    let w = c.work_out-worked.ensures in
    let worked : WorkedOut a.book a.bids.now c.work_out-worked.result = record { marks = w.marks; count = w.bids; offers = w.offered } in
    let award = c.award-awarded.ensures in
    let room = room-is a.book a.words.now a.bids.now a.answers.now a.results.now a.scratch.now none _ worked _ award.awards in
    let fit = sym (c.has_room.ensures ∙ room) ∙ c.if-not-has_room.false in
    let e = c.answered.ensures in
    let s = done a.book a.words.now a.bids.now a.answers.now a.results.now a.scratch.now none fit _ e.outcome e.register e.bids e.paths award.scratch in
    record { outcome = s.0; register = s.1.0; bids = s.1.1.0; paths = s.1.1.1.0; scratch = s.1.1.1.1 }
