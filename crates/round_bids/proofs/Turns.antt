-- What a loop over the numbered places of a list's bids knows.
use mathlib.Core.Path.{◌≡◌, sym, ◌∙◌, ap, subst}
use mathlib.Core.List.{List, [], ◌∷◌}
use Prim.Native.Nat.{ℕ, ◌+◌, ◌≤◌, ◌<◌}
use native.Mathlib.Omega.{arith}
use lib.ListN.{length}
use Rattle.std.specs.Prelude.{Option, None, Some}
use Rattle.std.specs.Iterator.{Drains}
use Rattle.std.specs.Iterator.Adapters.{enumerate_steps}
use Rattle.std.specs.declared.iter.Enumerate.{Enumerate}
use Rattle.market.specs.Limits.{path_limit}
use Rattle.round_bids.specs.Bids.{Bid, bid_end, bids_of}
use Rattle.round_bids.specs.Places.{GivesPlace}
use Rattle.round_bids.specs.declared.bid_places.BidPlaces.{BidPlaces}
use Rattle.round_bids.proofs.Walk.{Walk, walk-on, walk-done}

-- the numbered places that are left of those of a list
abbrev pub Numbered : Type 0
Numbered = Enumerate BidPlaces

-- what holds of a number and a place, where the iterator is
pub kept : (P : ℕ → ℕ → Type 0) (s : Numbered) {k at : ℕ} → s.count ≡ k → s.iter.at ≡ at → P k at → P s.count s.iter.at
kept P s number place p = rw (number, place) p

-- a turn: bid `k` is at `at`, and the next one is where it ends
pub record Turn (words : List ℕ) (P : ℕ → ℕ → Type 0) (k at : ℕ) (t : Numbered) : Type 0 where
  pub same : t.iter.words.now ≡ words
  pub inside : at < length words
  pub here : P k at
  pub number : t.count ≡ k + 1
  pub place : t.iter.at ≡ bid_end words at

module _ {words : List ℕ} (s t : Numbered) {r : Option (ℕ × ℕ)} (is : s.iter.words.now ≡ words) (step : enumerate_steps GivesPlace s r t) where
  pub turn : {k at : ℕ} (P : ℕ → ℕ → Type 0) → r ≡ Some (k, at) → P s.count s.iter.at → Turn words P k at t
  turn {k} {at} P some p =
      let now : enumerate_steps GivesPlace s (Some (k, at)) t = subst (λ (o : Option (ℕ × ℕ)). enumerate_steps GivesPlace s o t) some step in
      record {
        same = now.0.0 ∙ is;
        inside = omega (arith, ap (λ (l : List ℕ). length l) is);
        here = rw (now.1, now.0.2) p;
        number = cc;
        place = cc;
      }

  -- the end: no bid is left
  pub past_end : r ≡ None → length words ≤ s.iter.at
  past_end none =
      let now : enumerate_steps GivesPlace s None t = subst (λ (o : Option (ℕ × ℕ)). enumerate_steps GivesPlace s o t) none step in
      omega (arith, ap (λ (l : List ℕ). length l) is)

-- a call for each bid that is left, and one more
pub drained : {words : List ℕ} (xs : List ℕ) (s : BidPlaces) (k : ℕ) → s.words.now ≡ words → Walk path_limit words k s.at → Drains GivesPlace s xs → length (bids_of words) ≡ k + length xs
drained {words} [] s k is w h =
    let end = subst (λ (p : BidPlaces). GivesPlace p None h.0) (sym h.1.1) h.1.2 in
    let done = walk-done path_limit words k s.at w (omega (arith, ap (λ (l : List ℕ). length l) is, end.1)) in
    w.counted ∙ ap (λ (l : List Bid). k + length l) done
drained {words} (x ∷ xs) s k is w h =
    let one = h.1.1.1 in
    let on = walk-on path_limit words k s.at w (omega (arith, ap (λ (l : List ℕ). length l) is, one.1)) in
    let place : h.1.1.0.at ≡ bid_end words s.at = one.3 ∙ ap (λ (l : List ℕ). bid_end l s.at) is in
    omega (arith, drained xs h.1.1.0 (k + 1) (one.0 ∙ is) (rw place on) (h.0, (h.1.0, h.1.1.2, h.1.2)))
