-- Both ways the awards are those of `award_bids`; where it is not sure that nothing is refused, the lent scratch is not handed on.
use native.Mathlib.Omega.{arith}
use mathlib.Core.Path.{refl, sym, ◌∙◌}
use mathlib.Core.Bool.{true≢false}
use borrow.Author.Rules.{rules}
use Rattle.call_round.proofs.worked.award.Goals as goal

pub award_bids-requires : goal.award_bids-requires
award_bids-requires c = let pre = c.requires in
    record {
      bid_list = pre.bid_list;
      count_value = pre.bids_value;
      bid_limit_in_bounds = omega (arith, pre.marks_len);
      offered_value = pre.offered_value;
      scratch_words_in_bounds = pre.scratch_words_in_bounds;
    }

pub returns-then-sure : goal.returns-then-sure
returns-then-sure c = let e = c.award_bids.ensures in
    record {
      awards = record { won = e.won; sold = e.sold; prices = e.prices };
      scratch = e.scratch;
      apart = λ apart. absurd (true≢false (sym c.if-sure.true ∙ apart));
    }

pub award_bids-requires-2 : goal.award_bids-requires-2
award_bids-requires-2 c = let pre = c.requires in
    record {
      bid_list = pre.bid_list;
      count_value = pre.bids_value;
      bid_limit_in_bounds = omega (arith, pre.marks_len);
      offered_value = pre.offered_value;
      scratch_words_in_bounds = search rules;
    }

pub returns : goal.returns
returns c = let e = c.award_bids-2.ensures in
    record {
      awards = record { won = e.won; sold = e.sold; prices = e.prices };
      scratch = refl;
      apart = λ apart. refl;
    }
