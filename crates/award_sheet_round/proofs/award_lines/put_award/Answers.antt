-- By cases on what the bid won: its part is its line (`award-won`), which `put_award_line` writes, or nothing
-- (`award-lost`), and then the buffer is already right.
use native.Mathlib.Omega.{arith}
use mathlib.Core.Path.{refl, ap}
use lib.ListN.{length}
use Rattle.text_numbers.proofs.PutLaws.{put_is}
use Rattle.round_bids.specs.Bids.{bid_at}
use Rattle.text_writing.proofs.PutLaws.{written_from, written-done}
use Rattle.award_sheet_round.proofs.LineLaws.{award-won, award-lost}
use Rattle.award_sheet_round.proofs.award_lines.put_award.Goals as goal

pub put_award_line-requires : goal.put_award_line-requires
put_award_line-requires c =
    let a = c.args in
    let won = award-won a.answers.now a.bid (bid_at a.words.now a.place) c.if-answers-bid-gt0.true in
    record {
      header_words_in_bounds = c.requires.header_words_in_bounds;
      bid_lt_bid_limit = c.requires.bid_lt_bid_limit;
      bid_answer_words_in_bounds = c.requires.bid_answer_words_in_bounds;
      place_in_bounds = omega (arith, c.requires.place_in_bounds, ap length won);
    }

pub returns-then-answers-bid-gt0 : goal.returns-then-answers-bid-gt0
returns-then-answers-bid-gt0 c =
    let a = c.args in
    put_is (award-won a.answers.now a.bid (bid_at a.words.now a.place) c.if-answers-bid-gt0.true) c.put_award_line.ensures

pub returns : goal.returns
returns c =
    let a = c.args in
    written-done
    (written_from (award-lost a.answers.now a.bid (bid_at a.words.now a.place) c.if-answers-bid-gt0.false) c.requires.place_in_bounds)
    refl
