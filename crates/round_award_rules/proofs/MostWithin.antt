-- Claims that take within the limits of paths and of directions, in any order: the first of them, however many, take at least the MW that any legal
-- rival award gives them.
use mathlib.Core.Path.{◌≡◌, refl, sym, subst, ap}
use mathlib.Core.Bool.{Bool, true, false, cond}
use mathlib.Core.List.{List, [], ◌∷◌}
use Prim.Native.Nat.{ℕ, zero, suc, ◌+◌, ◌≤◌, ◌<◌}
use native.Mathlib.Omega.{arith}
use lib.Dec.{eqb}
use lib.ListN.{get_or, take}
use borrow.Author.Tests.{eq-eqb, eqb-true, eqb-false}
use Rattle.round_award_rules.specs.Awards.{Claim, Award, sum_of}
use Rattle.round_award_rules.specs.Rivals.{Each, Rival}
use Rattle.round_award_rules.proofs.LeftLaws.{total, less, less-there, less_other, less-at, less-total, AtMost, total-most}
use Rattle.round_award_rules.proofs.WalkWithin.{left_along, along-less, along-most, taken_within, paths_after, ways_after, walk_within, LegalWithin}
use Rattle.round_award_rules.proofs.WalkWithin.{of-way, way-less, paths-less, take_within}

-- ---- The first elements of a list

-- they sum to at most what all of them sum to
sum_first : (f : Claim → ℕ) (k : ℕ) (ls : List Claim) → sum_of f (take k ls) ≤ sum_of f ls
sum_first f zero ls = omega arith
sum_first f (suc k) [] = omega arith
sum_first f (suc k) (l ∷ ls) = omega (arith, sum_first f k ls)

-- what holds of each holds of each of them
each_first : (P : Claim → Type 0) (k : ℕ) (ls : List Claim) → Each P ls → Each P (take k ls)
each_first P zero ls h = tt
each_first P (suc k) [] h = tt
each_first P (suc k) (l ∷ ls) h = (h.0, each_first P k ls h.1)

-- what a rival gives the first claim is part of what it gives on the claim's path, or along its direction
given-first :
    (at :
    Claim → ℕ) (gives : Rival) (l : Claim) (ls : List Claim) → gives l.place ≤ sum_of (λ (m : Claim). cond (eqb (at m) (at l)) (gives m.place) 0) (l ∷ ls)
given-first at gives l ls =
    omega (arith, ap (λ (t : Bool). cond t (gives l.place) 0) (eq-eqb (at l) (at l) refl))

module _ (way : ℕ → ℕ) where
  -- ---- The claims and a rival, side by side

  -- What the claims have left (`left` of each path, `along` each direction) and what a rival has left of its own (`left'`, `along'`). The rival has
  -- as much more along a direction as it has more of the direction's paths together; and while the claims have anything left along a direction, the
  -- rival has at least as much left of each of its paths.
  record Beside (left along left' along' : List ℕ) : Type 0 where
    even : (d : ℕ) → get_or along' d 0 + left_along way d left ≡ get_or along d 0 + left_along way d left'
    paths : (path : ℕ) → 0 < get_or along (way path) 0 → get_or left path 0 ≤ get_or left' path 0

  -- so the rival has at least as much left along every direction
  beside-most : (left along left' along' : List ℕ) → Beside left along left' along' → AtMost along along'
  beside-most left along left' along' beside d = go (get_or along d 0) refl
    where
      go : (n : ℕ) → get_or along d 0 ≡ n → n ≤ get_or along' d 0
      go zero e = omega arith
      go (suc n) e =
          let most =
          along-most way d left left' (λ path on. beside.paths path (omega (arith, ap (λ (i : ℕ). get_or along i 0) on))) in
          omega (arith, beside.even d, most)

  -- A claim takes what it can, and the rival gives it some of what it has left itself: the claims and the rival stay side by side.
  module _ (left along left' along' : List ℕ) (l : Claim) (given : ℕ) (beside : Beside left along left' along')
      (own : given ≤ l.quantity) (there : given ≤ get_or left' l.path 0) (room : given ≤ get_or along' (way l.path) 0) where
    -- the rival has at least as much left of a path, if the claims have anything left along its direction
    abbrev Ahead : ℕ → Type 0
    Ahead path = 0 < get_or (ways_after way left along l) (way path) 0 → get_or (paths_after way left along l) path 0 ≤ get_or (less left' l.path given) path 0

    -- of the claim's own path: the direction did not stop the claim, so its MW or the path did
    own-path : Ahead l.path
    own-path some =
        let mine = less-there along (way l.path) (taken_within way left along l) in
        omega (
          arith,
          less-there left l.path (taken_within way left along l),
          less-there left' l.path given,
          beside.paths l.path (omega arith),
        )

    -- of any other path neither took anything
    other_path : (path : ℕ) → (path ≡ l.path → ⊥) → Ahead path
    other_path path other some =
        omega (
          arith,
          less_other left l.path (taken_within way left along l) path other,
          less_other left' l.path given path other,
          beside.paths path (omega (arith, way-less way left along l (way path))),
        )

    -- so of every path
    every-path : (path : ℕ) → Ahead path
    every-path path = go (eqb l.path path) refl
      where
        go : (t : Bool) → eqb l.path path ≡ t → Ahead path
        go true e = subst Ahead (eqb-true l.path path e) own-path
        go false e = other_path path (λ same. eqb-false l.path path e (sym same))

    -- and along each direction both have as much less as of its paths together
    still-beside : Beside (paths_after way left along l) (ways_after way left along l) (less left' l.path given) (less along' (way l.path) given)
    still-beside =
        record {
          even = λ d. omega (
            arith,
            beside.even d,
            way-less way left along l d,
            paths-less way left along l d,
            less-at along' (way l.path) given d room,
            along-less way d left' l.path given there,
          );
          paths = every-path;
        }

  -- ---- The MW of the first claims

  -- the MW that a rival gives, with what the claims have left, are at most the MW that the claims take, with what the rival has left
  at-least-given :
      (gives :
      Rival) (left along left' along' : List ℕ) (claims : List Claim) → Beside left along left' along' → LegalWithin way left' along' claims gives
      → sum_of (λ (l : Claim). gives l.place) claims + total along ≤ sum_of (λ (a : Award). a.taken) (walk_within way left along claims) + total along'
  at-least-given gives left along left' along' [] beside legal =
      omega (arith, total-most along along' (beside-most left along left' along' beside))
  at-least-given gives left along left' along' (l ∷ ls) beside legal =
      let given = gives l.place in
      let there : given ≤ get_or left' l.path 0 = omega (arith, given-first (λ m. m.path) gives l ls, legal.shared l.path) in
      let room : given ≤ get_or along' (way l.path) 0 = omega (arith, given-first (λ m. way m.path) gives l ls, legal.along (way l.path)) in
      let next =
      at-least-given gives (paths_after way left along l) (ways_after way left along l) (less left' l.path given) (less along' (way l.path) given) ls
      (still-beside left along left' along' l given beside legal.own.0 there room)
      (record {
        own = legal.own.1;
        shared = λ path. omega (arith, legal.shared path, less-at left' l.path given path there);
        along = λ d. omega (arith, legal.along d, less-at along' (way l.path) given d room);
      }) in
      omega (
        arith,
        next,
        less-total along (way l.path) (taken_within way left along l) (of-way way left along l),
        less-total along' (way l.path) given room,
      )

  -- a legal rival award is legal for the first claims alone
  legal-first : (k : ℕ) (gives : Rival) (left along : List ℕ) (claims : List Claim) → LegalWithin way left along claims gives → LegalWithin way left along (take k claims) gives
  legal-first k gives left along claims legal =
      record {
        own = each_first (λ l. gives l.place ≤ l.quantity) k claims legal.own;
        shared = λ path. omega (arith, legal.shared path, sum_first (λ l. cond (eqb l.path path) (gives l.place) 0) k claims);
        along = λ d. omega (arith, legal.along d, sum_first (λ l. cond (eqb (way l.path) d) (gives l.place) 0) k claims);
      }

  -- For claims in any order: the first of them, however many, take at least the MW that any legal rival award gives them.
  pub most-of-first :
      (gives :
      Rival) (left along : List ℕ) (claims : List Claim) → LegalWithin way left along claims gives
      → (k : ℕ) → sum_of (λ (l : Claim). gives l.place) (take k claims) ≤ sum_of (λ (a : Award). a.taken) (take k (walk_within way left along claims))
  most-of-first gives left along claims legal k =
      let alike : Beside left along left along = record { even = λ d. refl; paths = λ path some. omega arith } in
      omega (
        arith,
        at-least-given gives left along left along (take k claims) alike (legal-first k gives left along claims legal),
        ap (sum_of (λ (a : Award). a.taken)) (take_within way k left along claims),
      )
