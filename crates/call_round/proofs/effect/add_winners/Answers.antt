-- The period returned is the stage's; with that put in, both claims and the room required are those of `add_entries`.
use native.Mathlib.Omega.{arith}
use mathlib.Core.Path.{◌∙◌, ap}
use lib.ListN.{length}
use Rattle.market.specs.Books.{in_megawatts}
use Rattle.market.specs.declared.book.Period.{Period}
use Rattle.round_bids.specs.Bids.{bids_of}
use Rattle.round_entries.specs.Entries.{new_entries}
use Rattle.call_round.proofs.effect.add_winners.Goals as goal

pub add_entries-requires : goal.add_entries-requires
add_entries-requires c = let start = c in
    let pre = start.requires in
    let won = in_megawatts start.args.awarded.won in
    let same = ap (λ (p : Period). length (new_entries p won (bids_of start.args.bids.now))) c.period_of-period.ensures in
    record {
      bid_list = pre.bid_list;
      words_bound = omega (arith, same, pre.bids_bound);
      register_words_in_bounds = pre.register_words_in_bounds;
    }

pub returns : goal.returns
returns c = let add = c.add_entries.ensures in
    let period = c.period_of-period.ensures in
    record {
      count = add.count ∙ rw period;
      words = add.entries ∙ rw period;
    }
