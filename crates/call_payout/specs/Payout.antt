-- Payout: rules 10.2 to 10.5.
use Rattle.std.specs.Prelude.{Bool, true, false, cond, not, ◌&&◌, List, [], ◌∷◌, ◌++◌, ℕ, ◌*◌, leb, eqb, ℤ, pos, ◌-ℤ◌, length, get_or, take, replicate}
use Rattle.market.specs.Answers.{Row, ◌gives◌, answered}
use Rattle.market.specs.Books.{every, no_path, credit, with_account}
use Rattle.market.specs.Limits.{bidder_limit, issued, day_limit, zones}
use Rattle.market.specs.Sound.{sound_account}
use Rattle.market.specs.declared.answer.Refusal.{Refusal}
use Rattle.market.specs.declared.book.Book.{Book}
use Rattle.market.specs.declared.book.Entry.{Entry}
use Rattle.market.specs.declared.book.Path.{Path}
use Rattle.market.specs.declared.units.Day.{Day}
use Rattle.call_payout_hour.specs.Hours.{rate, hour_at, sound_zone_price}
use Rattle.pool_sharing.specs.Sharing.{total}
use Rattle.call_rules.specs.Money.{nothing}
use Rattle.call_rules.specs.Rule.{Rule, amounts_put}
use Rattle.call_rules.specs.Rule.Register.{read}
use Rattle.lent_lists.specs.Amounts.{listed}

-- rule 10.4: what one MW earns in the hour on a path
abbrev pub rate_on : Bool → List ℤ → Path → ℕ
rate_on failed prices path = rate (hour_at failed prices path) path.direction

-- the path with a given number
abbrev pub path_of : Book → ℕ → Path
path_of b i = get_or b.paths i no_path

-- rules 1.2 and 10.3: an entry earns if it is issued and the day is none before its first and none after its last
abbrev pub pays_on : Day → Entry → Bool
pays_on day e =
    eqb e.state issued && leb e.period.first.0 day.0 && leb day.0 e.period.last.0

-- rule 10.4: what an entry earns in the hour
abbrev pub earned : Book → Day → Bool → List ℤ → Entry → ℕ
earned b day failed prices e =
    cond (pays_on day e) (e.quantity.0 * rate_on failed prices (path_of b e.path)) 0

-- rule 10.5: what entries earn, each added to its bidder's amount
abbrev pub credited : (Entry → ℕ) → List ℕ → List Entry → List ℕ
credited earns amounts [] = amounts
credited earns amounts (e ∷ es) = credited earns (credit amounts e.bidder (earns e)) es

-- rule 10.5: the amounts of the 32 bidders, zeros included
unfoldable pub amounts_of : Book → Day → Bool → List ℤ → List Entry → List ℕ
amounts_of b day failed prices es = credited (earned b day failed prices) (replicate bidder_limit 0) es

-- rule 10.5: the account loses the sum of the amounts, and may become negative
abbrev pub account_paying : Book → Day → Bool → List ℤ → List Entry → ℤ
account_paying b day failed prices es = b.account.0 -ℤ pos (total (amounts_of b day failed prices es))

-- rule 10.2: all 16 prices are tested in a priced hour, and none in a failed one
abbrev pub sound_prices : Bool → List ℤ → Bool
sound_prices true prices = true
sound_prices false prices = every sound_zone_price (take zones prices)

-- rule 13.1: fewer than 16 prices, also in a failed hour, or a list for fewer than 32 amounts
abbrev pub short_payout_lists : List ℤ → List ℕ → List Row
short_payout_lists prices amounts =
    (not (leb zones (length prices)) gives Refusal.ShortBuffer) ∷ (not (leb bidder_limit (length amounts)) gives Refusal.ShortBuffer) ∷ []

-- rules 13.21 and 13.30: the day is above the highest day number, or a price of a priced hour is out of its range
abbrev pub hour_refusals : Day → Bool → List ℤ → List Row
hour_refusals day failed prices =
    (not (leb day.0 day_limit) gives Refusal.Days) ∷ (not (sound_prices failed prices) gives Refusal.ZonePrice) ∷ []

-- rule 13.31: the account would be outside its limits
abbrev pub account_refusals : Book → List Entry → Day → Bool → List ℤ → List Row
account_refusals b es day failed prices =
    (not (sound_account (account_paying b day failed prices es)) gives Refusal.Account) ∷ []

-- rules 10.2, 10.5 and 12.10: a payout as a call, in either stage; the amounts are written to their list and go out
unfoldable pub payout : Day → Bool → List ℤ → List ℕ → Rule
payout day failed prices amounts =
    record {
      on =
          λ b es.
          record {
            lent = short_payout_lists prices amounts;
            register = read;
            own = hour_refusals day failed prices ++ account_refusals b es day failed prices;
            outcome = answered (with_account b (account_paying b day failed prices es));
            fronts = amounts_put (amounts_of b day failed prices es);
          };
      into = nothing;
      out = listed;
    }
