-- The places of the bids of a list, which an iterator gives one by one: rule 7.1.
use Rattle.std.specs.Prelude.{◌≡◌, true, ℕ, ◌+◌, ◌-◌, ◌≤◌, ◌<◌, length, Option, None, Some}
use Rattle.std.specs.Iterator.{Count, at_most}
use Rattle.market.specs.Limits.{path_limit}
use Rattle.round_bids.specs.Bids.{bid_end}
use Rattle.round_bids.specs.BidRefusals.{sound_from}
use Rattle.round_bids.specs.declared.bid_places.BidPlaces.{BidPlaces}

-- the bids from there on are whole and sound
pub record SoundRest (s : BidPlaces) : Type 0 where
  pub more : ℕ
  pub within : s.at ≤ length s.words.now
  pub enough : length s.words.now ≤ more + s.at
  pub sound : sound_from path_limit more s.words.now s.at ≡ true

-- the place of the next bid is given, and the bid after it begins where that one ends; or the list is at its end
abbrev pub GivesPlace : BidPlaces → Option ℕ → BidPlaces → Type 0
GivesPlace old None new = (new.words.now ≡ old.words.now) × (length old.words.now ≤ old.at) × (new.at ≡ old.at)
GivesPlace old (Some at) new =
    (new.words.now ≡ old.words.now) × (old.at < length old.words.now) × (at ≡ old.at) × (new.at ≡ bid_end old.words.now old.at)

-- there are no more bids than words
abbrev pub places_left : BidPlaces → Count
places_left s = at_most (length s.words.now - s.at)
