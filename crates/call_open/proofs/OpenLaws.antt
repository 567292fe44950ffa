-- Open's rule is lawful: it keeps a sound state, and moves no money.
use mathlib.Core.Path.{◌≡◌, refl}
use mathlib.Core.Bool.{true}
use mathlib.Core.List.{List}
use Prim.Native.Nat.{ℕ, zero, suc, ◌+◌, ◌*◌, ◌≤◌, ◌<◌}
use native.Mathlib.Nat.{le_refl}
use native.Mathlib.Omega.{arith}
use lib.ListN.{get_or, take}
use lib.Seq.{get_or-take}
use borrow.Author.Tests.{leb-true, le-leb}
use Rattle.market.proofs.Every.{both_true, every-at-any, every-next, every_two}
use Rattle.market.proofs.SoundLaws.{sound-parts, sound-made, bidder-bounds, bidder-made, zone-within}
use Rattle.market.specs.Books.{every, no_path, no_value}
use Rattle.market.specs.Limits.{zone_limit, quantity_limit, quantity_words}
use Rattle.market.specs.Sound.{sound_round, round_of, sound_path, sound_bidder, sound_quantity}
use Rattle.market.specs.declared.book.Bidder.{Bidder}
use Rattle.market.specs.declared.book.Book.{Book}
use Rattle.market.specs.declared.book.Entry.{Entry}
use Rattle.market.specs.declared.book.Kind.{Kind}
use Rattle.market.specs.declared.book.Kind.TheVariants.{Short, Long}
use Rattle.market.specs.declared.book.Path.{Path}
use Rattle.market.specs.declared.book.Period.{Period}
use Rattle.call_open_offers.proofs.OfferLaws.{offer-limit}
use Rattle.call_open_offers.specs.Offers.{auction_offer}
use Rattle.register.specs.Entries.{outstanding}
use Rattle.call_rules.proofs.Lawful.{Lawful}
use Rattle.call_rules.specs.State.{SoundState}
use Rattle.call_rules.proofs.Sums.{nothing-moved}
use Rattle.call_rules.specs.Money.{worth}
use Rattle.call_rules.specs.Rule.{Lists}
use Rattle.call_open.proofs.Cleared.{Openable, openable}
use Rattle.call_open.specs.OpenedPaths.{quantities_at, opened_path, opened_paths}
use Rattle.call_open.specs.Open.{book_opened, «open»}

-- ---- The parts of the opened book

first_round : (kind : Kind) → sound_round kind 1 ≡ true
first_round Short = refl
first_round Long = refl

-- a sound bidder with no value is sound at round 1
bidder-opens : (round : ℕ) (x : Bidder) → sound_bidder round x ≡ true → no_value x ≡ true → sound_bidder 1 x ≡ true
bidder-opens round x sound none =
    bidder-made 1 x (record { one = none; two = refl }) (bidder-bounds round x sound)

-- an opened path is sound at round 1
path-opens :
    (kind :
    Kind) (period : Period) (es : List Entry) (quantities : List ℕ) (i : ℕ) (p : Path) → p.zone ≤ zone_limit → get_or quantities (i * quantity_words + 1) 0 ≤ quantity_limit
    → sound_path 1 (opened_path kind period es quantities i p) ≡ true
path-opens kind period es quantities i p zone upper =
    let offer = auction_offer kind (quantities_at quantities i) (outstanding i period es) in
    both_true
    (both_true (both_true (le-leb p.zone zone_limit zone) refl) (le-leb 0 offer (omega arith)))
    (le-leb offer quantity_limit (offer-limit kind (quantities_at quantities i) (outstanding i period es) upper))

-- a path's financial upper limit is one of the quantities that were tested
upper-within : (quantities : List ℕ) (paths i : ℕ) → every sound_quantity (take (paths * quantity_words) quantities) ≡ true → i < paths → get_or quantities (i * quantity_words + 1) 0 ≤ quantity_limit
upper-within quantities paths i h below =
    let place = i * quantity_words + 1 in
    let first = take (paths * quantity_words) quantities in
    let is : get_or first place 0 ≡ get_or quantities place 0 = get_or-take (paths * quantity_words) quantities place 0 (omega arith) in
    let tested : get_or first place 0 ≤ quantity_limit = leb-true (get_or first place 0) quantity_limit (every-at-any sound_quantity first place 0 h refl) in
    omega arith

-- the first paths are opened, and sound
paths-open :
    (kind :
    Kind) (period : Period) (es : List Entry) (quantities : List ℕ) (slots : List Path) (n : ℕ)
    → ((i : ℕ) → i < n → sound_path 1 (opened_path kind period es quantities i (get_or slots i no_path)) ≡ true) → every (sound_path 1) (take n (opened_paths kind period es quantities slots n)) ≡ true
paths-open kind period es quantities slots zero each = refl
paths-open kind period es quantities slots (suc n) each =
    every-next (sound_path 1) (opened_paths kind period es quantities slots n) n (opened_path kind period es quantities n (get_or slots n no_path))
    (paths-open kind period es quantities slots n (λ (i : ℕ) (below : i < n). each i (omega arith))) (each n (le_refl (suc n)))

open-keeps :
    (b : Book) (es : List Entry) (kind : Kind) (period : Period) (quantities : List ℕ) → SoundState b es → Openable b period quantities
    → SoundState (book_opened b es kind period quantities) es
open-keeps b es kind period quantities state can =
    let p = sound-parts b state.sound in
    let count = b.path_count in
    record {
      sound =
          sound-made (book_opened b es kind period quantities)
          (record {
            path-count = p.path-count;
            entries = p.entries;
            stage = both_true (first_round kind) can.days;
            paths =
                paths-open kind period es quantities b.paths count
                (λ (i : ℕ) (below : i < count).
                path-opens kind period es quantities i (get_or b.paths i no_path) (zone-within b i state.sound below)
                (upper-within quantities count i can.quantity below));
            bidders =
                every_two (sound_bidder (round_of b.stage)) no_value (sound_bidder 1) (bidder-opens (round_of b.stage)) b.bidders p.bidders can.values;
            account = p.account;
          });
      entries = state.entries;
      counted = state.counted;
      bidders = state.bidders;
    }

pub open-lawful : (kind : Kind) (period : Period) (quantities : List ℕ) (lists : Lists) → Lawful («open» kind period quantities) lists
unfolding «open»
open-lawful kind period quantities lists =
    record {
      lent-rows = λ b es. refl;
      own-rows = λ b es. refl;
      answers = λ b es. refl;
      paths = λ b es. refl;
      none_in = λ r. refl;
      none_out = λ r. refl;
      few = λ b es sound clear. (omega arith, omega arith);
      keeps = λ b es state clear. open-keeps b es kind period quantities state (openable b period quantities clear.own);
      moves = λ b es state clear. nothing-moved (worth b);
    }
