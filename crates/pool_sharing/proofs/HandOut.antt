-- Laws about the cents that are handed out by largest remainder.
use mathlib.Core.Path.{◌≡◌, refl, sym, ◌∙◌, subst}
use mathlib.Core.Bool.{Bool, true, false}
use mathlib.Core.List.{List, [], ◌∷◌}
use Prim.Native.Nat.{ℕ, zero, suc, min, ◌+◌, ◌*◌, ◌≤◌, ◌<◌}
use native.Mathlib.Omega.{arith}
use lib.Dec.{eqb}
use lib.ListN.{length, get_or, length-set}
use lib.Seq.{get_or-set_same, get_or-set_other}
use borrow.Author.Tests.{eqb-true, eqb-false}
use Rattle.pool_sharing.proofs.Largest.{at_most, all-zero, largest-at, largest-within, largest-first}
use Rattle.pool_sharing.proofs.Totals.{total-set}
use Rattle.pool_sharing.specs.Sharing.{total, biggest, largest, one_more, spent, hand_out}

-- one cent more for one participant
pub one-more-length : (shares : List ℕ) (place : ℕ) → length (one_more shares place) ≡ length shares
one-more-length shares place = length-set shares place (get_or shares place 0 + 1)

pub one-more-total : (shares : List ℕ) (place : ℕ) → place < length shares → total (one_more shares place) ≡ total shares + 1
one-more-total shares place h = omega (arith, total-set shares place (get_or shares place 0 + 1) h)

one-more-same : (shares : List ℕ) (place i : ℕ) → i ≡ place → place < length shares → get_or (one_more shares place) i 0 ≡ get_or shares i 0 + 1
one-more-same shares place i e h = rw e (get_or-set_same shares place (get_or shares place 0 + 1) 0 h)

one-more-other : (shares : List ℕ) (place i : ℕ) → (i ≡ place → ⊥) → get_or (one_more shares place) i 0 ≡ get_or shares i 0
one-more-other shares place i e = get_or-set_other shares place i (get_or shares place 0 + 1) 0 e

-- a spent remainder
pub spent-length : (rems : List ℕ) (place : ℕ) → length (spent rems place) ≡ length rems
spent-length rems place = length-set rems place 0

pub spent-at : (rems : List ℕ) (place i : ℕ) → get_or (spent rems place) i 0 ≤ get_or rems i 0
spent-at [] place i = omega arith
spent-at (x ∷ l) zero zero = omega arith
spent-at (x ∷ l) zero (suc i) = omega arith
spent-at (x ∷ l) (suc place) zero = omega arith
spent-at (x ∷ l) (suc place) (suc i) = spent-at l place i

pub hand-out-length : (cents : ℕ) (rems shares : List ℕ) → length (hand_out cents rems shares) ≡ length shares
hand-out-length zero rems shares = refl
hand-out-length (suc cents) rems shares =
    hand-out-length cents (spent rems (largest rems)) (one_more shares (largest rems)) ∙ one-more-length shares (largest rems)

-- Enough remainders for the cents: each is below `whole`, and together they make `whole` for each cent.
pub record Enough (whole cents : ℕ) (rems shares : List ℕ) : Type 0 where
  pub alike : length shares ≡ length rems
  pub below : (i : ℕ) → get_or rems i 0 < whole
  pub enough : cents * whole ≤ total rems

module _ (whole cents : ℕ) (rems shares : List ℕ) (e : Enough whole (suc cents) rems shares) where
  -- the largest remainder is then above 0
  some_left : biggest rems ≡ 0 → ⊥
  some_left h = omega (arith, all-zero rems h, e.below 0, e.enough)

  pub largest-left : 0 < biggest rems
  largest-left = go (biggest rems) some_left
    where
      go : (n : ℕ) → (n ≡ 0 → ⊥) → 0 < n
      go n h = omega arith

  pub place-within : largest rems < length rems
  place-within = largest-within rems largest-left

  -- and when it is spent, the others are enough for the other cents
  pub enough-next : Enough whole cents (spent rems (largest rems)) (one_more shares (largest rems))
  enough-next =
      record {
        alike = one-more-length shares (largest rems) ∙ e.alike ∙ sym (spent-length rems (largest rems));
        below = λ (i : ℕ). omega (arith, spent-at rems (largest rems) i, e.below i);
        enough = omega (arith, total-set rems (largest rems) 0 place-within, e.below (largest rems), e.enough);
      }

-- what a participant gets: at least the share that it has, and at most one cent more, which needs a remainder above 0
abbrev pub Gets : ℕ → ℕ → ℕ → Type 0
Gets share rem got = (share ≤ got) × (got ≤ share + min 1 rem)

-- one cent goes to a remainder above 0, which is then spent
module _ (rems shares : List ℕ) (place : ℕ) (within : place < length rems) (alike : length shares ≡ length rems)
    (above : 0 < get_or rems place 0) (i got : ℕ) where
  gets_more : Gets (get_or (one_more shares place) i 0) (get_or (spent rems place) i 0) got → Gets (get_or shares i 0) (get_or rems i 0) got
  gets_more h = go (eqb i place) refl
    where
      go : (t : Bool) → eqb i place ≡ t → Gets (get_or shares i 0) (get_or rems i 0) got
      go true p =
          let same : i ≡ place = eqb-true i place p in
          let more = one-more-same shares place i same (omega arith) in
          let gone : get_or (spent rems place) i 0 ≡ 0 = rw same (get_or-set_same rems place 0 0 within) in
          let some : 0 < get_or rems i 0 = rw same above in
          omega arith
      go false p =
          let share = one-more-other shares place i (eqb-false i place p) in
          let rem = get_or-set_other rems place i 0 0 (eqb-false i place p) in
          omega arith

-- all the cents are given
pub hand-out-total : (whole cents : ℕ) (rems shares : List ℕ) → Enough whole cents rems shares → total (hand_out cents rems shares) ≡ total shares + cents
hand-out-total whole zero rems shares e = omega arith
hand-out-total whole (suc cents) rems shares e =
    let inside : largest rems < length shares = omega (arith, place-within whole cents rems shares e, e.alike) in
    let rest = hand-out-total whole cents (spent rems (largest rems)) (one_more shares (largest rems)) (enough-next whole cents rems shares e) in
    omega (arith, rest, one-more-total shares (largest rems) inside)

-- each participant gets its share, or a cent more where it has a remainder
pub hand-out-gets : (whole cents : ℕ) (rems shares : List ℕ) → Enough whole cents rems shares → (i : ℕ) → Gets (get_or shares i 0) (get_or rems i 0) (get_or (hand_out cents rems shares) i 0)
hand-out-gets whole zero rems shares e i = omega arith
hand-out-gets whole (suc cents) rems shares e i =
    gets_more rems shares (largest rems) (place-within whole cents rems shares e) e.alike
    (omega (arith, largest-left whole cents rems shares e, largest-at rems)) i (get_or (hand_out cents (spent rems (largest rems)) (one_more shares (largest rems))) i 0)
    (hand-out-gets whole cents (spent rems (largest rems)) (one_more shares (largest rems)) (enough-next whole cents rems shares e) i)

-- ---- Who gets a cent

-- a participant comes before another: its remainder is larger, or it is equal and its number lower
pub record Before (rems : List ℕ) (i j : ℕ) : Type 0 where
  pub larger : get_or rems j 0 ≤ get_or rems i 0
  pub lower : get_or rems j 0 ≡ get_or rems i 0 → i < j

-- the first largest comes before every other
largest-before : (rems : List ℕ) (j : ℕ) → (j ≡ largest rems → ⊥) → Before rems (largest rems) j
largest-before rems j other =
    record {
      larger = omega (arith, at_most rems j, largest-at rems);
      lower = λ same.
          after j (largest rems) other
          (λ less. let no : ⊥ = omega (arith, largest-first rems j less, largest-at rems, same) in no);
    }
  where
    after : (n m : ℕ) → (n ≡ m → ⊥) → (n < m → ⊥) → m < n
    after n m p q = omega arith

-- one cent, where those after it are given in order
module _ (whole cents : ℕ) (rems shares : List ℕ) (e : Enough whole (suc cents) rems shares) (i j : ℕ) where
  abbrev place : ℕ
  place = largest rems

  abbrev rest : List ℕ
  rest = hand_out cents (spent rems place) (one_more shares place)

  module _ (more : get_or shares i 0 < get_or rest i 0) (none : get_or rest j 0 ≡ get_or shares j 0)
      (later : get_or (one_more shares place) i 0 < get_or rest i 0 → get_or rest j 0 ≡ get_or (one_more shares place) j 0 → Before (spent rems place) i j) where
    -- the place gets a cent now, and keeps it
    served : j ≡ place → ⊥
    served same =
        let inside : place < length shares = omega (arith, place-within whole cents rems shares e, e.alike) in
        let got = (hand-out-gets whole cents (spent rems place) (one_more shares place) (enough-next whole cents rems shares e) j).0 in
        let no : ⊥ = omega (arith, got, one-more-same shares place j same inside, none) in no

    one-turn : Before rems i j
    one-turn = go (eqb i place) refl
      where
        go : (t : Bool) → eqb i place ≡ t → Before rems i j
        go true p = subst (λ (k : ℕ). Before rems k j) (sym (eqb-true i place p)) (largest-before rems j served)
        go false p =
            let other = eqb-false i place p in
            let after = later (omega (arith, one-more-other shares place i other, more)) (none ∙ sym (one-more-other shares place j served)) in
            let mine = get_or-set_other rems place i 0 0 other in
            let its = get_or-set_other rems place j 0 0 served in
            record {
              larger = omega (arith, after.larger, mine, its);
              lower = λ same. after.lower (its ∙ same ∙ sym mine);
            }

-- whoever gets a cent comes before each that gets none
pub hand-out-order :
    (whole cents : ℕ) (rems shares : List ℕ) → Enough whole cents rems shares → (i j : ℕ) → get_or shares i 0 < get_or (hand_out cents rems shares) i 0
    → get_or (hand_out cents rems shares) j 0 ≡ get_or shares j 0 → Before rems i j
hand-out-order whole zero rems shares e i j more none = absurd (let no : ⊥ = omega (arith, more) in no)
hand-out-order whole (suc cents) rems shares e i j more none =
    one-turn whole cents rems shares e i j more none
    (hand-out-order whole cents (spent rems (largest rems)) (one_more shares (largest rems)) (enough-next whole cents rems shares e) i j)
