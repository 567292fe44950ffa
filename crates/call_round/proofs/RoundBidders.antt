-- The bidders that a round leaves are sound, and hold what they held.
use mathlib.Core.Path.{◌≡◌, refl, sym, ◌∙◌, ap}
use mathlib.Core.Bool.{Bool, true, false, ◌||◌, false≢true}
use mathlib.Core.List.{List}
use Prim.Native.Nat.{ℕ, zero, suc, ◌+◌, ◌≤◌}
use native.Mathlib.Nat.{le_refl}
use native.Mathlib.Omega.{arith}
use lib.Dec.{leb, eqb}
use lib.ListN.{length, get_or, take, length-set}
use lib.Seq.{get_or-set_other, take_all}
use borrow.Author.Tests.{leb-true, le-leb, eqb-true}
use Rattle.market.proofs.Every.{every-at-any, every-next}
use Rattle.market.proofs.SoundLaws.{bidder-bounds, AtRound, at-round, bidder-made, nothing-sound}
use Rattle.market.specs.Books.{every, ◌implies◌, no_bidder, held_of, no_value, value_of}
use Rattle.market.specs.Limits.{round_two_owed_limit, bidding_limit_top}
use Rattle.market.specs.Sound.{sound_round, round_of, kind_of, sound_bidder, BidderBounds}
use Rattle.market.specs.declared.book.Bidder.{Bidder}
use Rattle.market.specs.declared.book.Kind.{Kind}
use Rattle.market.specs.declared.book.Kind.TheVariants.{Short, Long}
use Rattle.market.specs.declared.book.Stage.{Stage}
use Rattle.round_bidders.specs.Bidders.{billed, billed_to}
use Rattle.round_paths.specs.Stages.{stage_after}
use Rattle.call_rules.proofs.Sums.{held-set}
use Rattle.call_rules.specs.Money.{held_by_all}
use Rattle.call_round.proofs.RoundPaths.{Stages}

-- ---- A bidder

-- before the first round no bidder has a value, so nothing is owed
none-owed : (round : ℕ) (x : Bidder) → round ≡ 1 → AtRound round x → x.owed.0 ≡ 0
none-owed round x one h =
    let none : x.applied.0 + x.owed.0 ≡ 0 = eqb-true (value_of x) 0 (ap (λ (n : ℕ). eqb n 1 implies no_value x) (sym one) ∙ h.one) in
    omega (arith, none)

-- before either round at most 2×10^13 is owed
owed-before : (kind : Kind) (round : ℕ) (x : Bidder) → sound_round kind round ≡ true → AtRound round x → x.owed.0 ≤ round_two_owed_limit
owed-before Short round x sound h = omega (arith, none-owed round x (eqb-true round 1 sound) h)
owed-before Long round x sound h = go (eqb round 1) (eqb round 2) refl refl sound
  where
    go : (s t : Bool) → eqb round 1 ≡ s → eqb round 2 ≡ t → (s || t) ≡ true → x.owed.0 ≤ round_two_owed_limit
    go true t e f either = omega (arith, none-owed round x (eqb-true round 1 e) h)
    go false true e f either =
        leb-true x.owed.0 round_two_owed_limit (ap (λ (u : Bool). u implies leb x.owed.0 round_two_owed_limit) (sym f) ∙ h.two)
    go false false e f either = absurd (false≢true either)

billed-within : (x : Bidder) (charges : ℕ) → BidderBounds x → x.owed.0 ≤ round_two_owed_limit → charges ≤ bidding_limit_top → BidderBounds (billed x charges)
billed-within x charges p owed most =
    record {
      held = omega (arith, p.held);
      letter = p.letter;
      hold = omega arith;
      owed = omega (arith, owed, most);
      step = p.step;
    }

-- what soundness at the next round requires of a billed bidder
billed-at : (next : ℕ) (x : Bidder) (charges : ℕ) → eqb next 1 ≡ false → (eqb next 2 ≡ true → x.owed.0 ≡ 0) → charges ≤ bidding_limit_top → AtRound next (billed x charges)
billed-at next x charges not-one first most =
    record {
      one = ap (λ (t : Bool). t implies no_value (billed x charges)) not-one;
      two = go (eqb next 2) refl;
    }
  where
    go : (t : Bool) → eqb next 2 ≡ t → (t implies leb (billed x charges).owed.0 round_two_owed_limit) ≡ true
    go true e = le-leb (billed x charges).owed.0 round_two_owed_limit (omega (arith, first e, most))
    go false e = refl

pub billed-sound :
    (stage : Stage) (x : Bidder) (charges : ℕ) → Stages stage → sound_bidder (round_of stage) x ≡ true → charges ≤ bidding_limit_top
    → sound_bidder (round_of (stage_after stage)) (billed x charges) ≡ true
billed-sound stage x charges s sound most =
    let round = round_of stage in
    let next = round_of (stage_after stage) in
    let now = at-round round x sound in
    bidder-made next (billed x charges)
    (billed-at next x charges s.not-one (λ e. none-owed round x (s.one-first e) now) most)
    (billed-within x charges (bidder-bounds round x sound) (owed-before (kind_of stage) round x s.kinds now) most)

-- cash that is applied stays held
billed-held : (x : Bidder) (charges : ℕ) → held_of (billed x charges) ≡ held_of x
billed-held x charges = omega arith

-- ---- All bidders

pub billed-length : (bidders : List Bidder) (charges : List ℕ) (n : ℕ) → length (billed_to bidders charges n) ≡ length bidders
billed-length bidders charges zero = refl
billed-length bidders charges (suc n) =
    length-set (billed_to bidders charges n) n (billed (get_or bidders n no_bidder) (get_or charges n 0)) ∙ billed-length bidders charges n

bidders-billed :
    (next :
    ℕ) (bidders : List Bidder) (charges : List ℕ) (n : ℕ) → ((i : ℕ) → sound_bidder next (billed (get_or bidders i no_bidder) (get_or charges i 0)) ≡ true)
    → every (sound_bidder next) (take n (billed_to bidders charges n)) ≡ true
bidders-billed next bidders charges zero each = refl
bidders-billed next bidders charges (suc n) each =
    every-next (sound_bidder next) (billed_to bidders charges n) n (billed (get_or bidders n no_bidder) (get_or charges n 0))
    (bidders-billed next bidders charges n each) (each n)

pub all-billed :
    (stage :
    Stage) (bidders : List Bidder) (charges : List ℕ) (n : ℕ) → Stages stage → length bidders ≡ n → every (sound_bidder (round_of stage)) bidders ≡ true
    → ((i : ℕ) → get_or charges i 0 ≤ bidding_limit_top) → every (sound_bidder (round_of (stage_after stage))) (billed_to bidders charges n) ≡ true
all-billed stage bidders charges n s long sound most =
    let round = round_of stage in
    let next = round_of (stage_after stage) in
    ap (every (sound_bidder next)) (sym (take_all n (billed_to bidders charges n) (omega (arith, billed-length bidders charges n, long))))
    ∙ bidders-billed next bidders charges n
    (λ i. billed-sound stage (get_or bidders i no_bidder) (get_or charges i 0) s (every-at-any (sound_bidder round) bidders i no_bidder sound (nothing-sound round)) (most i))

-- a bidder not yet reached is as it was
not-reached : (bidders : List Bidder) (charges : List ℕ) (n i : ℕ) → n ≤ i → get_or (billed_to bidders charges n) i no_bidder ≡ get_or bidders i no_bidder
not-reached bidders charges zero i past = refl
not-reached bidders charges (suc n) i past =
    get_or-set_other (billed_to bidders charges n) n i (billed (get_or bidders n no_bidder) (get_or charges n 0)) no_bidder (λ e. let no : ⊥ = omega (arith, e) in no)
    ∙ not-reached bidders charges n i (omega arith)

pub billed-holds : (bidders : List Bidder) (charges : List ℕ) (n : ℕ) → n ≤ length bidders → held_by_all (billed_to bidders charges n) ≡ held_by_all bidders
billed-holds bidders charges zero inside = refl
billed-holds bidders charges (suc n) inside =
    let x = get_or bidders n no_bidder in
    let before = billed_to bidders charges n in
    let there = held-set before n (billed x (get_or charges n 0)) (omega (arith, billed-length bidders charges n)) in
    let same = ap held_of (not-reached bidders charges n n (le_refl n)) in
    omega (arith, there, same, billed-held x (get_or charges n 0), billed-holds bidders charges n (omega arith))
