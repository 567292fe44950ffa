-- Laws about a field of a list at the front of a text.
use mathlib.Core.Path.{◌≡◌, refl, ap}
use mathlib.Core.Bool.{Bool, true, false, cond}
use mathlib.Core.List.{List}
use Prim.Native.Nat.{ℕ}
use lib.Dec.{eqb}
use borrow.Author.Tests.{eqb-true, eqb-false}
use Rattle.std.specs.Prelude.{Option, Some, None}
use Rattle.journal_fields.specs.declared.Found.{Found}
use Rattle.journal_number_lists.specs.Found.{found}

module _ {X : Type 0} (used : List ℕ → ℕ) (value : List ℕ → X) (text : List ℕ) where
  abbrev here : Found X
  here = record { value = value text; used = used text }

  pub none-found : found used value text ≡ None → used text ≡ 0
  none-found = go (eqb (used text) 0) refl
    where
      go : (t : Bool) → eqb (used text) 0 ≡ t → cond {A = Option (Found X)} t None (Some here) ≡ None → used text ≡ 0
      go true e h = eqb-true (used text) 0 e
      go false e h = cc

  pub record Read (r : Found X) : Type 0 where
    pub some : used text ≡ 0 → ⊥
    pub says : value text ≡ r.value
    pub bytes : used text ≡ r.used

  pub some-found : (r : Found X) → found used value text ≡ Some r → Read r
  some-found r = go (eqb (used text) 0) refl
    where
      same : Some here ≡ Some r → here ≡ r
      same h = cc

      go : (t : Bool) → eqb (used text) 0 ≡ t → cond {A = Option (Found X)} t None (Some here) ≡ Some r → Read r
      go true e h = absurd cc
      go false e h = record { some = eqb-false (used text) 0 e; says = ap (λ (q : Found X). q.value) (same h); bytes = ap (λ (q : Found X). q.used) (same h) }
