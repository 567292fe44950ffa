-- What is sound, part by part, and a sound book: rules 4.1 to 4.7; and what a stage says: rule 2.6.
use Rattle.std.specs.Prelude.{Bool, true, false, ◌&&◌, ◌||◌, List, ℕ, ◌≤◌, leb, eqb, ℤ, pos, neg_ℤ, get_or}
use Rattle.std.specs.Int.Signed.{le_z}
use Rattle.market.specs.Books.{every, ◌implies◌, day_number, paths_of, no_bidder, no_value, held_of}
use Rattle.market.specs.Limits.{path_limit, zone_limit, entry_limit, round_two_owed_limit, money_limit, owed_limit, step_limit}
use Rattle.market.specs.Limits.{account_limit, quantity_limit, day_limit}
use Rattle.market.specs.declared.book.Bidder.{Bidder}
use Rattle.market.specs.declared.book.Book.{Book}
use Rattle.market.specs.declared.book.Kind.{Kind}
use Rattle.market.specs.declared.book.Kind.TheVariants.{Short, Long}
use Rattle.market.specs.declared.book.Path.{Path}
use Rattle.market.specs.declared.book.Period.{Period}
use Rattle.market.specs.declared.book.Stage.{Stage}
use Rattle.market.specs.declared.book.Stage.TheVariants.{Idle, Open}

-- rule 4.1: a number of paths that a book may have
abbrev pub sound_path_count : ℕ → Bool
sound_path_count n = leb 1 n && leb n path_limit

-- rule 4.3: a next round that an auction of this kind can have
abbrev pub sound_round : Kind → ℕ → Bool
sound_round Short round = eqb round 1
sound_round Long round = eqb round 1 || eqb round 2

-- rules 1.2 and 4.2: a right period; it has a last day that is not before its first, and both are day numbers
abbrev pub sound_period : Period → Bool
sound_period p = leb p.first.0 p.last.0 && leb p.last.0 day_limit

-- rule 4.3: a sound stage; with no auction open there is nothing to test
abbrev pub sound_stage : Stage → Bool
sound_stage Idle = true
sound_stage (Open kind round period) = sound_round kind round && sound_period period

-- rule 2.6: no auction is open
abbrev pub is_idle : Stage → Bool
is_idle Idle = true
is_idle (Open kind round period) = false

-- rule 2.6: the number of the open auction's next round; 0 where none is open
abbrev pub round_of : Stage → ℕ
round_of Idle = 0
round_of (Open kind round period) = round

-- rule 2.6: the kind and the period of the open auction; S and day 0 where none is open
abbrev pub kind_of : Stage → Kind
kind_of Idle = Short
kind_of (Open kind round period) = kind

abbrev pub period_of : Stage → Period
period_of Idle = record { first = day_number 0; last = day_number 0 }
period_of (Open kind round period) = period

-- rule 4.4: a sound path, where `round` is the number of the next round
abbrev pub sound_path : ℕ → Path → Bool
sound_path round p =
    leb p.zone zone_limit
    && (eqb round 1 implies eqb p.sold.0 0)
    && leb p.sold.0 p.offer.0
    && leb p.offer.0 quantity_limit

-- rules 4.5 and 4.6: a sound bidder, where `round` is the number of the next round
abbrev pub sound_bidder : ℕ → Bidder → Bool
sound_bidder round x =
    (eqb round 1 implies no_value x)
    && (eqb round 2 implies leb x.owed.0 round_two_owed_limit)
    && leb (held_of x) money_limit
    && leb x.letter.0 money_limit
    && leb x.hold.0 x.letter.0
    && leb x.owed.0 owed_limit
    && leb x.step step_limit

-- rules 6.2 and 13.25: a quantity of MW that open takes
abbrev pub sound_quantity : ℕ → Bool
sound_quantity n = leb n quantity_limit

-- rules 4.7 and 13.31: an account within its limits
abbrev pub sound_account : ℤ → Bool
sound_account z = le_z (neg_ℤ (pos account_limit)) z && le_z z (pos account_limit)

-- rules 4.1 to 4.7: a sound book; the entries that it counts are the register's, rule 4.8
unfoldable pub sound_book : Book → Bool
sound_book b =
    sound_path_count b.path_count
    && leb b.entries entry_limit
    && sound_stage b.stage
    && every (sound_path (round_of b.stage)) (paths_of b)
    && every (sound_bidder (round_of b.stage)) b.bidders
    && sound_account b.account.0

-- rule 4.5: what holds of a sound bidder at any round, as functions that work on one ask for it
pub record BidderBounds (x : Bidder) : Type 0 where
  pub held : held_of x ≤ money_limit
  pub letter : x.letter.0 ≤ money_limit
  pub hold : x.hold.0 ≤ x.letter.0
  pub owed : x.owed.0 ≤ owed_limit
  pub step : x.step ≤ step_limit

-- the bidder with any number is within these bounds
abbrev pub AllWithin : List Bidder → Type 0
AllWithin bidders = (i : ℕ) → BidderBounds (get_or bidders i no_bidder)
