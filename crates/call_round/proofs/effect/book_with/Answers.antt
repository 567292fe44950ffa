-- The three parts that change are each what its callee ensures, and a book made of equal parts is equal (`made-same`);
-- the sound book gives the bounds that the callees require.
use Rattle.call_round.proofs.RoundLaws.{made-same, sold-sound}
use mathlib.Core.Path.{◌∙◌, ap}
use Rattle.market.proofs.SoundLaws.{bidder-within, sound-parts, count-within}
use Rattle.round_bidders.specs.Bidders.{billed_all}
use Rattle.call_round.proofs.effect.book_with.Goals as goal

pub charges_of-charges-requires : goal.charges_of-charges-requires
charges_of-charges-requires c = let pre = c.requires in record {
  bid_list = pre.bid_list;
  won_value = pre.won_value;
  prices_value = pre.prices_value;
}

pub bill_all-billed-requires : goal.bill_all-billed-requires
bill_all-billed-requires c = let start = c in
    record {
      all_within = (λ i. bidder-within start.args.book i start.requires.book_value);
      charges_value = c.charges_of-charges.ensures.result_value_2;
    }

pub sold_of-slots-requires : goal.sold_of-slots-requires
sold_of-slots-requires c = let start = c in
    let b = start.args.book in
    let pre = start.requires in
    record {
      count_le_path_limit = count-within b.path_count (sound-parts b pre.book_value).path-count;
      paths_value = sold-sound b pre.book_value;
      sold_value = pre.sold_value;
    }

pub returns : goal.returns
returns c = let start = c in
    let b = start.args.book in
    made-same b start.args.entries c.sold_of-slots.ensures (c.bill_all-billed.ensures ∙ ap (billed_all b.bidders) c.charges_of-charges.ensures.result_value)
    c.stage_after-next.ensures
