-- `start` makes a tree of the claims of the admitted bids, no more of them than the scratch has words, so the walk whose tables `award` returns is
-- the rule's walk (`awards_of`).
use native.Mathlib.Omega.{arith}
use mathlib.Core.Path.{◌∙◌, ap}
use mathlib.Core.List.{List}
use lib.ListN.{length}
use Rattle.market.specs.Books.{in_megawatts}
use Rattle.round_bids.specs.Bids.{bids_of}
use Rattle.round_award_rules.specs.Awards.{Claim, in_order, walk, claims_of, awards_of}
use Rattle.round_order.proofs.FirstLaws.{length-order}
use Rattle.round_order.proofs.StepLaws.{claims-few}
use Rattle.round_awards.specs.Tables.{won_table, sold_table, price_table}
use Rattle.round_awards.proofs.award_bids.Goals as goal

pub start-first-requires : goal.start-first-requires
start-first-requires c = let pre = c.requires in record {
  bid_list = pre.bid_list;
  count_value = pre.count_value;
  bid_limit_in_bounds = pre.bid_limit_in_bounds;
  scratch_words_in_bounds = pre.scratch_words_in_bounds;
}

pub award-requires : goal.award-requires
award-requires c =
    let made = c.start-first.ensures in
    let a = c.args in
    let few = claims-few a.words.now a.marks.now a.count c.requires.bid_list c.requires.count_value in
    let long = ap (λ (ls : List Claim). length (in_order ls)) made.claims ∙ length-order (claims_of (bids_of a.words.now) a.marks.now) in
    record {
      tree = made.tree;
      tree_len_bound = omega (arith, few, long);
      offered_value = c.requires.offered_value;
    }

pub returns : goal.returns
unfolding awards_of
returns c =
    let is = ap (λ (ls : List Claim). walk (in_megawatts c.args.offered) (in_order ls)) c.start-first.ensures.claims in
    let e = c.award.ensures in
    record {
      won = e.won ∙ ap won_table is;
      sold = e.sold ∙ ap sold_table is;
      prices = e.prices ∙ ap price_table is;
      scratch = c.award.auto.tree ∙ c.start-first.auto.tree;
    }
