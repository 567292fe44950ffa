-- Two calls that write to different lists: each list is what its callee ensures, and the requirements are handed on.
use native.Mathlib.Omega.{arith}
use Rattle.call_round.proofs.effect.write_answers.Goals as goal

pub write_bids-requires : goal.write_bids-requires
write_bids-requires c = let pre = c.requires in
    record {
      bid_list = pre.bid_list;
      bid_limit_in_bounds = omega (arith, pre.marks_len);
      won_value = pre.won_value;
      prices_value = pre.prices_value;
      bid_answer_words_in_bounds = pre.bid_answer_words_in_bounds;
    }
