-- A line in two pieces, its three numbers and its mark with its value (`three-pieces`): the first is added by
-- `written_next`, which leaves the room that the second needs, and the second by `written_all`.
use native.Mathlib.Omega.{arith}
use mathlib.Core.Path.{refl}
use mathlib.Core.List.{List, [], ◌∷◌}
use Prim.Native.Nat.{ℕ, ◌+◌}
use Rattle.text_numbers.specs.Decimal.{decimal}
use Rattle.text_fields.specs.Fields.{line, space, numbers_text}
use Rattle.round_bids.specs.Bids.{Bid, bid_at}
use Rattle.call_round.specs.Answers.{mark_in, value_in}
use Rattle.text_writing.proofs.PutLaws.{written_from, written-room, written-fits, written_next, written_all}
use Rattle.text_writing.proofs.PieceLaws.{three-pieces}
use Rattle.award_sheet_round.specs.RoundLines.{mark_word}
use Rattle.award_sheet_round.proofs.bid_lines.put_bid_line.Goals as goal

abbrev named : ℕ → Bid → List ℕ
named bid b = numbers_text space ((bid + 1) ∷ b.bidder ∷ b.path ∷ [])

abbrev answer : List ℕ → ℕ → List ℕ
answer answers bid = line (mark_word (mark_in answers bid) ∷ decimal (value_in answers bid) ∷ [])

pub put_bid_named-named-requires : goal.put_bid_named-named-requires
put_bid_named-named-requires c =
    let a = c.args in
    let b = bid_at a.words.now a.place in
    let begun = written_from (three-pieces (a.bid + 1) b.bidder b.path (answer a.answers.now a.bid)) c.requires.place_in_bounds in
    record {
      header_words_in_bounds = c.requires.header_words_in_bounds;
      bid_lt_bid_limit = c.requires.bid_lt_bid_limit;
      place_in_bounds = written-fits begun (named a.bid b) (answer a.answers.now a.bid) refl;
    }

pub put_bid_answer-requires : goal.put_bid_answer-requires
put_bid_answer-requires c =
    let a = c.args in
    let b = bid_at a.words.now a.place in
    let begun = written_from (three-pieces (a.bid + 1) b.bidder b.path (answer a.answers.now a.bid)) c.requires.place_in_bounds in
    record {
      bid_answer_size_in_bounds = omega (arith, c.requires.bid_lt_bid_limit, c.requires.bid_answer_words_in_bounds);
      bid_in_bounds = written-room (written_next begun c.put_bid_named-named.ensures);
    }

pub returns : goal.returns
returns c =
    let a = c.args in
    let b = bid_at a.words.now a.place in
    let begun = written_from (three-pieces (a.bid + 1) b.bidder b.path (answer a.answers.now a.bid)) c.requires.place_in_bounds in
    written_all (written_next begun c.put_bid_named-named.ensures) c.put_bid_answer.ensures
