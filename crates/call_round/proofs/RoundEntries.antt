-- The entries that a round adds are sound.
use mathlib.Core.Path.{◌≡◌, refl}
use mathlib.Core.Bool.{Bool, true, false, cond, not, ◌&&◌}
use mathlib.Core.List.{List, [], ◌∷◌}
use Prim.Native.Nat.{ℕ, ◌+◌, ◌≤◌}
use lib.Dec.{leb, ltb}
use lib.ListN.{get_or}
use borrow.Author.Tests.{leb-true, le-leb, lt-ltb, ltb-true}
use Rattle.market.proofs.Every.{both_true, every_append, every-at-any}
use Rattle.market.proofs.Tests.{left-true, right-true}
use Rattle.market.specs.Books.{every}
use Rattle.market.specs.Limits.{bidder_limit, quantity_limit}
use Rattle.market.specs.Sound.{sound_period, sound_quantity}
use Rattle.market.specs.declared.book.Period.{Period}
use Rattle.register.specs.Entries.{sound_entry}
use Rattle.round_bids.proofs.BidLaws.{HeaderBounds, header-bounds}
use Rattle.round_bids.specs.Bids.{Bid, header_of}
use Rattle.round_bids.specs.Encoding.{right_after}
use Rattle.round_bids.specs.BidRefusals.{sound_header, sound_laminations, above_prices, sound_bid, has_bid, stamp_of}
use Rattle.round_entries.specs.Entries.{entry_of, if_won, entries_from}

-- what is known of the first of bids that a round takes
pub first-right :
    (paths : ℕ) (earlier : List Bid) (b : Bid) (bs : List Bid) → right_after paths earlier (b ∷ bs) ≡ true
    → HeaderBounds paths (header_of b) × (right_after paths (b ∷ earlier) bs ≡ true)
first-right paths earlier b bs h =
    let t1 = sound_bid paths b in
    let t2 = not (has_bid b.bidder b.path earlier) in
    let t3 = leb (stamp_of earlier) b.stamp in
    let t4 = right_after paths (b ∷ earlier) bs in
    let sound : sound_bid paths b ≡ true = left-true t1 t2 (left-true (t1 && t2) t3 (left-true (t1 && t2 && t3) t4 h)) in (
      header-bounds paths (header_of b) (left-true (sound_header paths (header_of b)) (sound_laminations above_prices b.laminations) sound),
      right-true (t1 && t2 && t3) t4 h,
    )

-- the entry of a bid, if it won
entry-sound :
    (paths :
    ℕ) (period : Period) (won : ℕ) (b : Bid) → sound_period period ≡ true → won ≤ quantity_limit → HeaderBounds paths (header_of b)
    → every (sound_entry paths) (if_won (entry_of period won b)) ≡ true
entry-sound paths period won b days most h = go (ltb 0 won) refl
  where
    go : (t : Bool) → ltb 0 won ≡ t → every (sound_entry paths) (cond t (entry_of period won b ∷ []) []) ≡ true
    go true e =
        both_true
        (both_true
        (both_true
        (both_true (both_true (both_true (lt-ltb b.bidder bidder_limit h.bidder-below) (lt-ltb b.path paths h.path-below)) (le-leb 1 won (ltb-true 0 won e)))
        (le-leb won quantity_limit most))
        days)
        refl)
        refl
    go false e = refl

pub entries-sound :
    (paths :
    ℕ) (period : Period) (won : List ℕ) (k : ℕ) (earlier bs : List Bid) → sound_period period ≡ true → every sound_quantity won ≡ true → right_after paths earlier bs ≡ true
    → every (sound_entry paths) (entries_from period won k bs) ≡ true
entries-sound paths period won k earlier [] days most right = refl
entries-sound paths period won k earlier (b ∷ bs) days most right =
    let first = first-right paths earlier b bs right in
    every_append (sound_entry paths) (if_won (entry_of period (get_or won k 0) b)) (entries_from period won (k + 1) bs)
    (entry-sound paths period (get_or won k 0) b days (leb-true (get_or won k 0) quantity_limit (every-at-any sound_quantity won k 0 most refl)) first.0)
    (entries-sound paths period won (k + 1) (b ∷ earlier) bs days most first.1)
