-- The hour of a payout, its prices, and what one MW earns in it: rules 10.2 and 10.4.
use Rattle.std.specs.Prelude.{Bool, true, false, ◌&&◌, List, ℕ, ℤ, pos, negsuc, neg_ℤ, get_or}
use Rattle.std.specs.Int.Signed.{le_z}
use Rattle.market.specs.Books.{zone_price}
use Rattle.market.specs.Limits.{zone_price_limit}
use Rattle.market.specs.declared.book.Direction.{Direction}
use Rattle.market.specs.declared.book.Direction.TheVariants.{Export, Import}
use Rattle.market.specs.declared.book.Path.{Path}
use Rattle.call_payout_hour.specs.declared.Hour.{Hour}
use Rattle.call_payout_hour.specs.declared.Hour.TheVariants.{Failed, Priced}

-- the greater of 0 and a price
abbrev pub above_zero : ℤ → ℕ
above_zero (pos n) = n
above_zero (negsuc n) = 0

-- rule 10.4: what one MW earns by the direction of its path; in a failed hour nothing
abbrev pub rate : Hour → Direction → ℕ
rate Failed way = 0
rate (Priced p) Export = above_zero p.0
rate (Priced p) Import = above_zero (neg_ℤ p.0)

-- rules 10.2 and 10.4: the hour as an entry on the path sees it: failed, or with the price of the path's zone
abbrev pub hour_at : Bool → List ℤ → Path → Hour
hour_at true prices path = Failed
hour_at false prices path = Priced (zone_price (get_or prices path.zone (pos 0)))

-- rule 10.2: a price that a priced hour may have
abbrev pub sound_zone_price : ℤ → Bool
sound_zone_price p = le_z (neg_ℤ (pos zone_price_limit)) p && le_z p (pos zone_price_limit)

-- the price that an entry sees is within these limits; a failed hour has no price
abbrev pub sound_hour : Hour → Bool
sound_hour Failed = true
sound_hour (Priced p) = sound_zone_price p.0
