-- Laws about the megawatts outstanding on each path, summed one entry at a time.
use mathlib.Core.Path.{◌≡◌, refl, sym, ◌∙◌, ap, ap₂}
use mathlib.Core.Bool.{Bool, true, false, cond, ◌&&◌}
use mathlib.Core.List.{List, [], ◌∷◌, ◌++◌}
use Prim.Native.Nat.{ℕ, zero, suc, ◌+◌, ◌*◌, ◌≤◌, ◌<◌}
use native.Mathlib.Numerals.{add-one}
use native.Mathlib.Omega.{arith}
use borrow.Author.Tests.{eqb-true, eqb-false}
use lib.Dec.{eqb}
use lib.ListN.{length, get_or, set}
use lib.Seq.{get_or-set_same, get_or-set_other}
use Rattle.market.proofs.KindLaws.{map-set, megawatts-at}
use Rattle.market.proofs.Tests.{kept-at-most}
use Rattle.market.specs.Books.{every, megawatts, in_megawatts}
use Rattle.market.specs.Limits.{quantity_limit}
use Rattle.market.specs.declared.book.Entry.{Entry}
use Rattle.market.specs.declared.book.Period.{Period}
use Rattle.market.specs.declared.units.Megawatts.{Megawatts}
use Rattle.register.proofs.EntryLaws.{entries-more, each-bounds}
use Rattle.register.specs.Entries.{sound_entry, shares_day, counted_of, outstanding}
use Rattle.register.specs.Words.{entry_at, entries_of}

pub outstanding-snoc : (path : ℕ) (period : Period) (es : List Entry) (e : Entry) → outstanding path period (es ++ (e ∷ [])) ≡ outstanding path period es + counted_of path period e
outstanding-snoc path period [] e = omega arith
outstanding-snoc path period (x ∷ es) e = omega (arith, outstanding-snoc path period es e)

pub outstanding-more :
    (words : List ℕ) (i path : ℕ) (period : Period)
    → outstanding path period (entries_of words (i + 1)) ≡ outstanding path period (entries_of words i) + counted_of path period (entry_at words i)
outstanding-more words i path period =
    ap (outstanding path period) (entries-more words i) ∙ outstanding-snoc path period (entries_of words i) (entry_at words i)

counted-within : (path : ℕ) (period : Period) (e : Entry) → counted_of path period e ≤ e.quantity.0
counted-within path period e = kept-at-most (eqb e.path path && shares_day e.period period) e.quantity.0

-- what a counted entry of a sound register adds to the sum is within the limit of a quantity
counted-bound :
    (paths : ℕ) (words : List ℕ) (n i path : ℕ) (period : Period) → every (sound_entry paths) (entries_of words n) ≡ true → i < n
    → counted_of path period (entry_at words i) ≤ quantity_limit
counted-bound paths words n i path period h below =
    omega (arith, counted-within path period (entry_at words i), (each-bounds paths words n i h below).quantity)

-- so the sum of the first entries of a sound register is within so many times that limit
pub outstanding-within :
    (paths : ℕ) (words : List ℕ) (n path : ℕ) (period : Period) → every (sound_entry paths) (entries_of words n) ≡ true → (i : ℕ) → i ≤ n
    → outstanding path period (entries_of words i) ≤ i * quantity_limit
outstanding-within paths words n path period h zero few = omega arith
outstanding-within paths words n path period h (suc i) few =
    let more = rw (add-one i) at (outstanding-more words i path period) in
    omega (arith, more, outstanding-within paths words n path period h i (omega arith), counted-bound paths words n i path period h (omega arith))

-- ---- The sums of all paths

-- megawatts added at a place of a list of quantities
pub megawatts-added :
    (l : List Megawatts) (i more : ℕ) → in_megawatts (set l i (megawatts ((get_or l i (megawatts 0)).0 + more))) ≡ set (in_megawatts l) i (get_or (in_megawatts l) i 0 + more)
megawatts-added l i more =
    map-set (λ (x : Megawatts). x.0) l i (megawatts ((get_or l i (megawatts 0)).0 + more))
    ∙ ap (λ (n : ℕ). set (in_megawatts l) i (n + more)) (sym (megawatts-at l i))

-- what an entry counts for if its path is left aside
abbrev pub shared : Period → Entry → ℕ
shared period e = cond (shares_day e.period period) e.quantity.0 0

pub shared-within : (period : Period) (e : Entry) → shared period e ≤ e.quantity.0
shared-within period e = kept-at-most (shares_day e.period period) e.quantity.0

module _ (l : List ℕ) (period : Period) (e : Entry) (inside : e.path < length l) where
  -- added to the sum of its path, it is counted on that path and on no other
  pub path-added : (k : ℕ) → get_or (set l e.path (get_or l e.path 0 + shared period e)) k 0 ≡ get_or l k 0 + counted_of k period e
  path-added k = go (eqb e.path k) refl
    where
      go : (t : Bool) → eqb e.path k ≡ t → get_or (set l e.path (get_or l e.path 0 + shared period e)) k 0 ≡ get_or l k 0 + counted_of k period e
      go true p =
          let here : e.path ≡ k = eqb-true e.path k p in
          let counts : counted_of k period e ≡ shared period e = ap (λ (t : Bool). cond (t && shares_day e.period period) e.quantity.0 0) p in
          let at = get_or-set_same l e.path (get_or l e.path 0 + shared period e) 0 inside in
          ap (λ (n : ℕ). get_or (set l e.path (get_or l e.path 0 + shared period e)) n 0) (sym here)
          ∙ at
          ∙ ap₂ ◌+◌ (ap (λ (n : ℕ). get_or l n 0) here) (sym counts)
      go false p =
          let none : counted_of k period e ≡ 0 = ap (λ (t : Bool). cond (t && shares_day e.period period) e.quantity.0 0) p in
          let other = get_or-set_other l e.path k (get_or l e.path 0 + shared period e) 0 (λ same. eqb-false e.path k p (sym same)) in
          omega (arith, other, none)
