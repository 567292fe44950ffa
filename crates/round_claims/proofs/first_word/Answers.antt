use native.Mathlib.Omega.{arith}
use mathlib.Core.Path.{ap}
use Rattle.market.specs.Limits.{path_limit}
use Rattle.round_bids.proofs.Walk.{right-bounds}
use Rattle.round_bids.specs.declared.Header.{Header}
use Rattle.round_claims.proofs.first_word.Goals as goal

-- a bid that is whole and sound has no more pairs than a bid may have
pub pack-requires-clause-more_lt_more_limit : goal.pack-requires-clause-more_lt_more_limit
pack-requires-clause-more_lt_more_limit c =
    let count = ap (λ (h : Header). h.count) c.header_at-header.ensures in
    omega (arith, count, (right-bounds path_limit c.args.words.now c.args.at c.requires.at_value).few)
