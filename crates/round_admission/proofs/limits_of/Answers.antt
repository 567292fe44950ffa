use borrow.Author.Rules.{rules}
use native.Mathlib.Omega.{arith}
use Rattle.market.specs.Books.{no_bidder}
use Rattle.round_bids.proofs.Arrays.{serves_each, map_by_index}
use Rattle.round_admission.specs.Admission.{bidding_limit}
use Rattle.round_admission.proofs.limits_of.Goals as goal

pub map-requires : goal.map-requires
map-requires c = (omega arith, (omega arith, (omega arith, serves_each c.args.bidders no_bidder (λ x q r. search rules) (λ k below. c.requires k))))

pub returns : goal.returns
returns c = map_by_index bidding_limit (λ x. x.0) c.args.bidders c.map.result (search rules) (λ i d e below. let made = (c.map.ensures.items.at i d e (search rules)).2 in search rules)
