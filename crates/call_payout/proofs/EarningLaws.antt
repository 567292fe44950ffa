-- Laws about what entries earn and how amounts add up.
use mathlib.Core.Path.{◌≡◌, refl, sym, ◌∙◌, ap, ap₂}
use mathlib.Core.Bool.{Bool, true, false}
use mathlib.Core.List.{List, [], ◌∷◌, ◌++◌, map}
use Prim.Native.Nat.{ℕ, zero, suc, ◌+◌, ◌-◌, ◌*◌, ◌≤◌, ◌<◌, zero-le}
use native.Mathlib.Nat.{mul-le-mul}
use native.Mathlib.Omega.{arith}
use lib.IntN.{ℤ, pos}
use lib.ListN.{length, get_or, take, replicate, length-set, length-take}
use lib.Seq.{get_or-take}
use Rattle.market.proofs.Every.{every-at-any}
use Rattle.market.proofs.Filled.{filled}
use Rattle.market.proofs.SoundLaws.{zone-within}
use Rattle.market.specs.Books.{credit}
use Rattle.market.specs.Limits.{zone_limit, quantity_limit, zones, zone_price_limit}
use Rattle.market.specs.Sound.{sound_book}
use Rattle.market.specs.declared.book.Book.{Book}
use Rattle.market.specs.declared.book.Direction.{Direction}
use Rattle.market.specs.declared.book.Direction.TheVariants.{Export, Import}
use Rattle.market.specs.declared.book.Entry.{Entry}
use Rattle.market.specs.declared.book.Path.{Path}
use Rattle.call_payout_hour.proofs.PriceLaws.{above_within, below-within}
use Rattle.call_payout_hour.specs.Hours.{rate, hour_at, sound_zone_price, sound_hour}
use Rattle.call_payout_hour.specs.declared.Hour.{Hour}
use Rattle.call_payout_hour.specs.declared.Hour.TheVariants.{Failed, Priced}
use Rattle.register.proofs.EntryLaws.{entries-more}
use Rattle.register.specs.Words.{entry_at, entries_of}
use Rattle.pool_sharing.proofs.Totals.{total-set}
use Rattle.pool_sharing.specs.Sharing.{total}
use Rattle.call_payout.specs.Payout.{rate_on, path_of, credited, sound_prices}

-- the price that an entry sees is sound
pub hour-sound : (failed : Bool) (prices : List ℤ) (path : Path) → sound_prices failed prices ≡ true → path.zone ≤ zone_limit → sound_hour (hour_at failed prices path) ≡ true
hour-sound true prices path h below = refl
hour-sound false prices path h below =
    let is : get_or (take zones prices) path.zone (pos 0) ≡ get_or prices path.zone (pos 0) =
    get_or-take zones prices path.zone (pos 0) (omega arith)
    in
    rw is at (every-at-any sound_zone_price (take zones prices) path.zone (pos 0) h refl)

-- one MW earns at most the limit of a price
rate-within : (hour : Hour) (way : Direction) → sound_hour hour ≡ true → rate hour way ≤ zone_price_limit
rate-within Failed way h = zero-le
rate-within (Priced p) Export h = above_within p.0 h
rate-within (Priced p) Import h = below-within p.0 h

-- the image of an element is at the element's place among the images
image-at : {A : Type 0} (f : A → ℕ) (l : List A) (rest : List ℕ) (i : ℕ) (d : A) → i < length l → get_or (map f l ++ rest) i 0 ≡ f (get_or l i d)
image-at f [] rest i d h = absurd (omega arith)
image-at f (x ∷ l) rest zero d h = refl
image-at f (x ∷ l) rest (suc i) d h = image-at f l rest i d (omega arith)

pub filled_at : {A : Type 0} (f : A → ℕ) (xs : List A) (n blank i k : ℕ) (d : A) → k < i → i ≤ length xs → get_or (filled f xs n blank i) k 0 ≡ f (get_or xs k d)
filled_at f xs n blank i k d below within =
    image-at f (take i xs) (replicate (n - i) blank) k d (simp length-take (omega arith)) ∙ ap f (get_or-take i xs k d below)

-- so what one MW earns on a path of a sound book is within that limit
pub rate-sound :
    (b : Book) (failed : Bool) (prices : List ℤ) (i : ℕ) → i < b.path_count → sound_book b ≡ true → sound_prices failed prices ≡ true
    → rate_on failed prices (path_of b i) ≤ zone_price_limit
rate-sound b failed prices i below sound priced =
    rate-within (hour_at failed prices (path_of b i)) (path_of b i).direction
    (hour-sound failed prices (path_of b i) priced (zone-within b i sound below))

-- crediting one more entry
credited-snoc : (earns : Entry → ℕ) (amounts : List ℕ) (es : List Entry) (e : Entry) → credited earns amounts (es ++ (e ∷ [])) ≡ credit (credited earns amounts es) e.bidder (earns e)
credited-snoc earns amounts [] e = refl
credited-snoc earns amounts (x ∷ es) e = credited-snoc earns (credit amounts x.bidder (earns x)) es e

pub credited-more :
    (earns :
    Entry → ℕ) (amounts : List ℕ) (words : List ℕ) (i : ℕ)
    → credited earns amounts (entries_of words (i + 1)) ≡ credit (credited earns amounts (entries_of words i)) (entry_at words i).bidder (earns (entry_at words i))
credited-more earns amounts words i =
    ap (credited earns amounts) (entries-more words i) ∙ credited-snoc earns amounts (entries_of words i) (entry_at words i)

-- entries that earn the same are credited the same
pub credited-same :
    (f g : Entry → ℕ) (amounts : List ℕ) (words : List ℕ) (n : ℕ) → ((i : ℕ) → i < n → f (entry_at words i) ≡ g (entry_at words i))
    → credited f amounts (entries_of words n) ≡ credited g amounts (entries_of words n)
credited-same f g amounts words zero same = refl
credited-same f g amounts words (suc n) same =
    let e = entry_at words n in
    credited-snoc f amounts (entries_of words n) e
    ∙ ap₂ (λ (l : List ℕ) (x : ℕ). credit l e.bidder x)
    (credited-same f g amounts words n (λ i h. same i (omega arith)))
    (same n (omega arith))
    ∙ sym (credited-snoc g amounts (entries_of words n) e)

-- a credit adds to the total
pub credit-total : (amounts : List ℕ) (bidder cents : ℕ) → bidder < length amounts → total (credit amounts bidder cents) ≡ total amounts + cents
credit-total amounts bidder cents h =
    omega (arith, total-set amounts bidder (get_or amounts bidder 0 + cents) h)

pub credit-length : (amounts : List ℕ) (bidder cents : ℕ) → length (credit amounts bidder cents) ≡ length amounts
credit-length amounts bidder cents = length-set amounts bidder (get_or amounts bidder 0 + cents)

-- what an entry earns is at most the limit of a quantity times the limit of a price
pub product-within : {q r : ℕ} → q ≤ quantity_limit → r ≤ zone_price_limit → q * r ≤ quantity_limit * zone_price_limit
product-within p h = mul-le-mul p h
