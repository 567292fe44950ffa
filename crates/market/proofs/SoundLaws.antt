-- What a sound book gives, part by part; and a sound book from its parts.
use mathlib.Core.Path.{◌≡◌}
use mathlib.Core.Bool.{true, ◌&&◌, or-true}
use Prim.Native.Nat.{ℕ, ◌≤◌, ◌<◌}
use lib.Dec.{leb, eqb}
use lib.ListN.{get_or, take}
use lib.Seq.{get_or-take}
use borrow.Author.Tests.{leb-true, le-leb}
use Rattle.market.proofs.Every.{both_true, every-at-any}
use Rattle.market.proofs.Tests.{left-true, right-true}
use Rattle.market.specs.Books.{every, ◌implies◌, paths_of, no_path, no_bidder, bidder_of, no_value, held_of}
use Rattle.market.specs.Limits.{path_limit, zone_limit, quantity_limit, entry_limit, round_two_owed_limit, money_limit, owed_limit, step_limit}
use Rattle.market.specs.Sound.{sound_path_count, sound_stage, round_of, sound_path, sound_bidder, sound_account, sound_book, BidderBounds}
use Rattle.market.specs.declared.book.Bidder.{Bidder}
use Rattle.market.specs.declared.book.Book.{Book}
use Rattle.market.specs.declared.book.Path.{Path}

pub count-within : (n : ℕ) → sound_path_count n ≡ true → n ≤ path_limit
count-within n h = leb-true n path_limit (right-true (leb 1 n) (leb n path_limit) h)

-- the parts of a sound book
pub record SoundParts (b : Book) : Type 0 where
  pub path-count : sound_path_count b.path_count ≡ true
  pub entries : b.entries ≤ entry_limit
  pub stage : sound_stage b.stage ≡ true
  pub paths : every (sound_path (round_of b.stage)) (paths_of b) ≡ true
  pub bidders : every (sound_bidder (round_of b.stage)) b.bidders ≡ true
  pub account : sound_account b.account.0 ≡ true

pub sound-parts : (b : Book) → sound_book b ≡ true → SoundParts b
unfolding sound_book
sound-parts b h =
    let ways = round_of b.stage in
    let count = sound_path_count b.path_count in
    let entries = leb b.entries entry_limit in
    let stage = sound_stage b.stage in
    let paths = every (sound_path ways) (paths_of b) in
    let bidders = every (sound_bidder ways) b.bidders in
    let account = sound_account b.account.0 in
    let h₅ = left-true (count && entries && stage && paths && bidders) account h in
    let h₄ = left-true (count && entries && stage && paths) bidders h₅ in
    let h₃ = left-true (count && entries && stage) paths h₄ in
    let h₂ = left-true (count && entries) stage h₃ in
    record {
      path-count = left-true count entries h₂;
      entries = leb-true b.entries entry_limit (right-true count entries h₂);
      stage = right-true (count && entries) stage h₃;
      paths = right-true (count && entries && stage) paths h₄;
      bidders = right-true (count && entries && stage && paths) bidders h₅;
      account = right-true (count && entries && stage && paths && bidders) account h;
    }

pub sound-made : (b : Book) → SoundParts b → sound_book b ≡ true
unfolding sound_book
sound-made b p =
    both_true
    (both_true
    (both_true (both_true (both_true p.path-count (le-leb b.entries entry_limit p.entries)) p.stage) p.paths)
    p.bidders)
    p.account

-- what the round asks of a bidder
pub record AtRound (round : ℕ) (x : Bidder) : Type 0 where
  pub one : (eqb round 1 implies no_value x) ≡ true
  pub two : (eqb round 2 implies leb x.owed.0 round_two_owed_limit) ≡ true

-- the parts of a sound bidder
bidder-parts : (round : ℕ) (x : Bidder) → sound_bidder round x ≡ true → AtRound round x × BidderBounds x
bidder-parts round x h =
    let one = eqb round 1 implies no_value x in
    let two = eqb round 2 implies leb x.owed.0 round_two_owed_limit in
    let held = leb (held_of x) money_limit in
    let letter = leb x.letter.0 money_limit in
    let hold = leb x.hold.0 x.letter.0 in
    let owed = leb x.owed.0 owed_limit in
    let step = leb x.step step_limit in
    let h₅ = left-true (one && two && held && letter && hold && owed) step h in
    let h₄ = left-true (one && two && held && letter && hold) owed h₅ in
    let h₃ = left-true (one && two && held && letter) hold h₄ in
    let h₂ = left-true (one && two && held) letter h₃ in
    let h₁ = left-true (one && two) held h₂ in (
      record { one = left-true one two h₁; two = right-true one two h₁ },
      record {
        held = leb-true (held_of x) money_limit (right-true (one && two) held h₂);
        letter = leb-true x.letter.0 money_limit (right-true (one && two && held) letter h₃);
        hold = leb-true x.hold.0 x.letter.0 (right-true (one && two && held && letter) hold h₄);
        owed = leb-true x.owed.0 owed_limit (right-true (one && two && held && letter && hold) owed h₅);
        step = leb-true x.step step_limit (right-true (one && two && held && letter && hold && owed) step h);
      },
    )

pub at-round : (round : ℕ) (x : Bidder) → sound_bidder round x ≡ true → AtRound round x
at-round round x h = (bidder-parts round x h).0

pub bidder-bounds : (round : ℕ) (x : Bidder) → sound_bidder round x ≡ true → BidderBounds x
bidder-bounds round x h = (bidder-parts round x h).1

-- a bidder with nothing is sound at every round, so in a sound book the bidder with any number is sound
pub nothing-sound : (round : ℕ) → sound_bidder round no_bidder ≡ true
nothing-sound round = simp or-true

pub bidder-sound : (b : Book) (i : ℕ) → sound_book b ≡ true → sound_bidder (round_of b.stage) (bidder_of b i) ≡ true
bidder-sound b i h =
    let round = round_of b.stage in
    every-at-any (sound_bidder round) b.bidders i no_bidder (sound-parts b h).bidders (nothing-sound round)

-- in a sound book the bidder with any number is within the bounds
pub bidder-within : (b : Book) (i : ℕ) → sound_book b ≡ true → BidderBounds (bidder_of b i)
bidder-within b i h = bidder-bounds (round_of b.stage) (bidder_of b i) (bidder-sound b i h)

-- the bounds of a sound path
pub record PathBounds (round : ℕ) (p : Path) : Type 0 where
  pub zone : p.zone ≤ zone_limit
  pub start : (eqb round 1 implies eqb p.sold.0 0) ≡ true
  pub sold : p.sold.0 ≤ p.offer.0
  pub offer : p.offer.0 ≤ quantity_limit

-- a path with nothing is sound at every round
pub no-path-sound : (round : ℕ) → sound_path round no_path ≡ true
no-path-sound round = simp or-true

pub path-bounds : (round : ℕ) (p : Path) → sound_path round p ≡ true → PathBounds round p
path-bounds round p h =
    let zone = leb p.zone zone_limit in
    let start = eqb round 1 implies eqb p.sold.0 0 in
    let sold = leb p.sold.0 p.offer.0 in
    let offer = leb p.offer.0 quantity_limit in
    let h₃ = left-true (zone && start && sold) offer h in
    let h₂ = left-true (zone && start) sold h₃ in
    record {
      zone = leb-true p.zone zone_limit (left-true zone start h₂);
      start = right-true zone start h₂;
      sold = leb-true p.sold.0 p.offer.0 (right-true (zone && start) sold h₃);
      offer = leb-true p.offer.0 quantity_limit (right-true (zone && start && sold) offer h);
    }

-- a sound bidder from its parts
pub bidder-made : (round : ℕ) (x : Bidder) → AtRound round x → BidderBounds x → sound_bidder round x ≡ true
bidder-made round x a p =
    both_true
    (both_true
    (both_true
    (both_true (both_true (both_true a.one a.two) (le-leb (held_of x) money_limit p.held)) (le-leb x.letter.0 money_limit p.letter))
    (le-leb x.hold.0 x.letter.0 p.hold))
    (le-leb x.owed.0 owed_limit p.owed))
    (le-leb x.step step_limit p.step)

-- a path of a sound book leads to a zone
pub zone-within : (b : Book) (i : ℕ) → sound_book b ≡ true → i < b.path_count → (get_or b.paths i no_path).zone ≤ zone_limit
zone-within b i h below =
    let round = round_of b.stage in
    let p = get_or (take b.path_count b.paths) i no_path in
    let all = every-at-any (sound_path round) (take b.path_count b.paths) i no_path (sound-parts b h).paths (no-path-sound round) in
    let is : p ≡ get_or b.paths i no_path = get_or-take b.path_count b.paths i no_path below in
    rw is at (path-bounds round p all).zone
