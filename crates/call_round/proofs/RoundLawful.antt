-- A round's rule is lawful: it keeps a sound state, and no money moves.
use mathlib.Core.Path.{◌≡◌, refl, ◌∙◌}
use mathlib.Core.Bool.{true}
use mathlib.Core.List.{List, [], ◌++◌}
use Prim.Native.Nat.{ℕ, ◌+◌, ◌-◌, ◌≤◌}
use native.Mathlib.Omega.{arith}
use lib.ListN.{length, get_or, length-append}
use borrow.Author.Tests.{leb-true}
use Rattle.market.proofs.Every.{every_append, every-at-any}
use Rattle.market.proofs.SoundLaws.{sound-parts, sound-made}
use Rattle.market.specs.Limits.{path_limit, bidder_limit, entry_limit, bidding_limit_top}
use Rattle.market.specs.Sound.{period_of, sound_book}
use Rattle.market.specs.declared.book.Book.{Book}
use Rattle.market.specs.declared.book.Entry.{Entry}
use Rattle.register.specs.Entries.{sound_entry}
use Rattle.round_bids.proofs.EncodingLaws.{bids-right}
use Rattle.round_bids.proofs.Walk.{bids-few}
use Rattle.round_bids.specs.Bids.{Bid, bids_of}
use Rattle.round_bids.specs.BidRefusals.{list_refusals}
use Rattle.round_bids.specs.Encoding.{right_bids}
use Rattle.round_admission.proofs.LimitLaws.{limits-within}
use Rattle.round_admission.specs.Admission.{bidding_limits, within_top}
use Rattle.round_award_rules.proofs.BestAward.{sold-within-offer}
use Rattle.round_award_rules.specs.Awards.{sold_on}
use Rattle.round_charges.specs.Charges.{charges_of}
use Rattle.round_bidders.specs.Bidders.{billed_to}
use Rattle.call_rules.proofs.Decides.{own_row}
use Rattle.call_rules.proofs.Lawful.{Moved, Lawful}
use Rattle.call_rules.specs.State.{SoundState}
use Rattle.call_rules.proofs.Sums.{held_more}
use Rattle.call_rules.specs.Money.{held_by_all, cash_held}
use Rattle.call_rules.specs.Rule.{Lists}
use Rattle.call_round.specs.Round.{offered_now, marks_now, awards_now, won_now, sold_now, prices_now, entries_now, room_refusals, book_after, round}
use Rattle.call_round.proofs.ChargeLimits.{below-most, charges-within-limits}
use Rattle.call_round.proofs.Cleared.{list-rows, lists-long, biddable}
use Rattle.call_round.proofs.ReadyLaws.{bids-listed}
use Rattle.call_round.proofs.RoundBidders.{billed-length, all-billed, billed-holds}
use Rattle.call_round.proofs.RoundBounds.{won-quantities}
use Rattle.call_round.proofs.RoundEntries.{entries-sound}
use Rattle.call_round.proofs.RoundPaths.{Stages, stages, paths-sold}

module _ (b : Book) (bids : List Bid) where
  abbrev charges : List ℕ
  charges = charges_of (won_now b bids) (prices_now b bids) bids

  module _ (right : right_bids b.path_count bids ≡ true) where
    -- a path sells at most what the round offers
    sold-offered : (i : ℕ) → get_or (sold_now b bids) i 0 ≤ get_or (offered_now b) i 0
    unfolding awards_now
    sold-offered i =
        let table = below-most path_limit (λ path. sold_on path (awards_now b bids)) i in
        let offer = sold-within-offer b.path_count (offered_now b) bids (marks_now b bids) right i in
        omega (arith, table, offer)

    -- no bidder is charged more than 2×10^13
    charges-within-top : sound_book b ≡ true → (i : ℕ) → get_or charges i 0 ≤ bidding_limit_top
    charges-within-top sound i =
        let top = leb-true (get_or (bidding_limits b) i 0) bidding_limit_top (every-at-any within_top (bidding_limits b) i 0 (limits-within b sound) refl) in
        omega (arith, top, charges-within-limits b bids right i)

    -- the state after an answered round
    state-after :
        (es : List Entry) → SoundState b es → Stages b.stage → b.entries + length (entries_now b bids) ≤ entry_limit
        → SoundState (book_after b bids) (es ++ entries_now b bids)
    state-after es state s room =
        let p = sound-parts b state.sound in
        let count = b.path_count in
        let more = entries_now b bids in
        record {
          sound =
              sound-made (book_after b bids)
              (record {
                path-count = p.path-count;
                entries = room;
                stage = s.after;
                paths = paths-sold b.stage b.paths (sold_now b bids) count (path_limit - count) s p.paths sold-offered;
                bidders = all-billed b.stage b.bidders charges bidder_limit s state.bidders p.bidders (charges-within-top state.sound);
                account = p.account;
              });
          entries =
              every_append (sound_entry count) es more state.entries
              (entries-sound count (period_of b.stage) (won_now b bids) 0 [] bids s.days (won-quantities b bids state.sound right) right);
          counted = omega (arith, length-append es more, state.counted);
          bidders = billed-length b.bidders charges bidder_limit ∙ state.bidders;
        }

  -- cash that is applied stays held
  nothing-moves : length b.bidders ≡ bidder_limit → Moved b (book_after b bids) 0 0
  nothing-moves all =
      held_more b.account.0 (cash_held b) (held_by_all (billed_to b.bidders charges bidder_limit)) 0
      (omega (arith, billed-holds b.bidders charges bidder_limit (omega (arith, all))))

pub round-lawful : (bid_words : List ℕ) (lists : Lists) (scratch : List ℕ) → Lawful (round bid_words lists.answers lists.results scratch) lists
unfolding round
round-lawful bid_words lists scratch =
    record {
      lent-rows = λ b es. refl;
      own-rows =
          λ b es.
          every_append own_row (list_refusals b.path_count bid_words) (room_refusals b (bids_of bid_words))
          (list-rows b.path_count bid_words) refl;
      answers = λ b es. refl;
      paths = λ b es. refl;
      none_in = λ n. refl;
      none_out = λ n. refl;
      few =
          λ b es sound clear.
          let can = biddable b bid_words clear.own in
          let most = bids-few path_limit bid_words (bids-listed b bid_words sound can.short can.clear).sound can.short in
          (most, omega (arith, most, (lists-long lists.answers lists.results scratch clear.lent).0));
      keeps =
          λ b es state clear.
          let can = biddable b bid_words clear.own in
          state-after b (bids_of bid_words) (bids-right b.path_count bid_words can.clear) es state
          (stages b.stage can.is_open (sound-parts b state.sound).stage) can.room;
      moves = λ b es state clear. nothing-moves b (bids_of bid_words) state.bidders;
    }
