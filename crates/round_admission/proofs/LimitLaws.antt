-- Laws about bidding limits: in a sound book none is above 2×10^13.
use mathlib.Core.Path.{◌≡◌}
use mathlib.Core.Bool.{true}
use Prim.Native.Nat.{ℕ, zero, suc, ◌+◌, ◌-◌, ◌≤◌}
use native.Mathlib.Nat.{mul-le-mul}
use native.Mathlib.Omega.{arith}
use borrow.Author.Tests.{le-leb}
use Rattle.market.proofs.Every.{every_map}
use Rattle.market.proofs.SoundLaws.{bidder-bounds, sound-parts}
use Rattle.market.specs.Books.{every}
use Rattle.market.specs.Limits.{money_limit, bidding_limit_top}
use Rattle.market.specs.Sound.{round_of, sound_bidder, sound_book, BidderBounds}
use Rattle.market.specs.declared.book.Bidder.{Bidder}
use Rattle.market.specs.declared.book.Book.{Book}
use Rattle.round_admission.specs.Admission.{multiplier, bidding_limit, bidding_limits, within_top}

multiplier-within : (step : ℕ) → multiplier step ≤ 10
multiplier-within zero = omega arith
multiplier-within (suc zero) = omega arith
multiplier-within (suc (suc zero)) = omega arith
multiplier-within (suc (suc (suc zero))) = omega arith
multiplier-within (suc (suc (suc (suc n)))) = omega arith

pub limit-within : (x : Bidder) → BidderBounds x → bidding_limit x ≤ bidding_limit_top
limit-within x b =
    let money : x.cash.0 + x.letter.0 - x.hold.0 ≤ money_limit + money_limit = omega (arith, b.held, b.letter) in
    mul-le-mul (multiplier-within x.step) money

pub limits-within : (b : Book) → sound_book b ≡ true → every within_top (bidding_limits b) ≡ true
limits-within b h =
    let round = round_of b.stage in
    every_map bidding_limit within_top (sound_bidder round)
    (λ x ok. le-leb (bidding_limit x) bidding_limit_top (limit-within x (bidder-bounds round x ok)))
    b.bidders (sound-parts b h).bidders
