-- The count that `header_at` returns is the header's count in the rule; with that put in, the claim is the contract of
-- `pairs_value` at the first pair.
use native.Mathlib.Omega.{arith}
use mathlib.Core.Path.{◌≡◌, ◌∙◌, ap}
use Prim.Native.Nat.{ℕ}
use Rattle.market.specs.Books.{cents}
use Rattle.round_bids.specs.Bids.{header_at, laminations_at, laminations_value, pairs_from}
use Rattle.round_bids.specs.BidRefusals.{sound_laminations, above_prices}
use Rattle.round_bids.specs.declared.Header.{Header}
use Rattle.round_bids.proofs.bid_value.Goals as goal

pub pairs_value-requires : goal.pairs_value-requires
pairs_value-requires c = let a = c.args in
    let pre = c.requires in
    let w = a.words.now in
    let n : c.header_at-header.result.count ≡ (header_at w a.at).count = ap (λ (k : Header). k.count) c.header_at-header.ensures in record {
      pair_words_in_bounds = omega (arith, n);
      count_le_lamination_limit = omega (arith, n);
      count_value = ap (λ (m : ℕ). sound_laminations above_prices (laminations_at w (pairs_from a.at) m)) n ∙ pre.at_value;
    }

pub returns : goal.returns
returns c = let a = c.args in
    let pre = c.requires in
    let w = a.words.now in
    let n : c.header_at-header.result.count ≡ (header_at w a.at).count = ap (λ (k : Header). k.count) c.header_at-header.ensures in record {
      value = c.pairs_value.ensures.value ∙ ap (λ (m : ℕ). cents (laminations_value (laminations_at w (pairs_from a.at) m))) n;
      result_le_bid_value_limit = c.pairs_value.ensures.result_le_bid_value_limit;
    }
