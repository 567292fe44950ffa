-- Laws about what entries earn by the rates of a book's paths, which are computed once for an hour.
use mathlib.Core.Path.{◌≡◌, ap}
use mathlib.Core.Bool.{Bool, true, cond}
use mathlib.Core.List.{List}
use Prim.Native.Nat.{ℕ, ◌+◌, ◌*◌, ◌≤◌, ◌<◌}
use native.Mathlib.Omega.{arith}
use lib.IntN.{ℤ}
use lib.ListN.{get_or}
use Rattle.market.specs.Limits.{quantity_limit, zone_price_limit, account_limit, entry_limit}
use Rattle.market.specs.declared.book.Book.{Book}
use Rattle.market.specs.declared.book.Entry.{Entry}
use Rattle.market.specs.declared.units.Day.{Day}
use Rattle.register.specs.Refusals.{LentRegister}
use Rattle.register.proofs.EntryLaws.{EntryBounds, each-bounds}
use Rattle.register.specs.Words.{entry_at, entries_of}
use Rattle.pool_sharing.proofs.Totals.{total-at}
use Rattle.pool_sharing.specs.Sharing.{total}
use Rattle.call_payout.proofs.EarningLaws.{rate-sound, credited-same}
use Rattle.call_payout.specs.Payout.{rate_on, path_of, pays_on, earned, credited, sound_prices}

-- what an entry earns by a list of rates
abbrev pub earned_by : Day → List ℕ → Entry → ℕ
earned_by day rates e = cond (pays_on day e) (e.quantity.0 * get_or rates e.path 0) 0

-- a list has the rate of each path of a book at the path's number
abbrev pub HasRates : Book → Bool → List ℤ → List ℕ → Type 0
HasRates b failed prices rates = (k : ℕ) → k < b.path_count → get_or rates k 0 ≡ rate_on failed prices (path_of b k)

module _ (b : Book) (words : List ℕ) (lent : LentRegister b words) (i : ℕ) (inside : i < b.entries) where
  pub bounds : EntryBounds b.path_count (entry_at words i)
  bounds = each-bounds b.path_count words b.entries i lent.entries inside

  module _ (failed : Bool) (prices : List ℤ) (rates : List ℕ) (made : HasRates b failed prices rates) where
    here : get_or rates (entry_at words i).path 0 ≡ rate_on failed prices (path_of b (entry_at words i).path)
    here = made (entry_at words i).path bounds.path

    pub rate-low : sound_prices failed prices ≡ true → get_or rates (entry_at words i).path 0 ≤ zone_price_limit
    rate-low priced =
        rw here (rate-sound b failed prices (entry_at words i).path bounds.path lent.sound priced)

    pub earns-same : (day : Day) → earned_by day rates (entry_at words i) ≡ earned b day failed prices (entry_at words i)
    earns-same day = ap (λ (x : ℕ). cond (pays_on day (entry_at words i)) ((entry_at words i).quantity.0 * x) 0) here

-- so all counted entries are credited what the rules say
pub credits-same :
    (b :
    Book) (words : List ℕ) (lent : LentRegister b words) (failed : Bool) (prices : List ℤ) (rates : List ℕ) → HasRates b failed prices rates → (day : Day) (amounts : List ℕ)
    → credited (earned_by day rates) amounts (entries_of words b.entries) ≡ credited (earned b day failed prices) amounts (entries_of words b.entries)
credits-same b words lent failed prices rates made day amounts =
    credited-same (earned_by day rates) (earned b day failed prices) amounts words b.entries
    (λ i inside. earns-same b words lent i inside failed prices rates made day)

-- the sum so far, with one more entry, is within the account's limit
pub sum_fits : (i n sum cents : ℕ) → i < n → n ≤ entry_limit → sum ≤ i * (quantity_limit * zone_price_limit) → cents ≤ quantity_limit * zone_price_limit → sum + cents ≤ account_limit
sum_fits i n sum cents inside few within more = omega arith

pub amount-fits : (amounts : List ℕ) (bidder sum cents : ℕ) → sum ≡ total amounts → sum + cents ≤ account_limit → get_or amounts bidder 0 + cents ≤ account_limit
amount-fits amounts bidder sum cents same fits = omega (arith, total-at amounts bidder)
