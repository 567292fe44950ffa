-- A call that a line says has as many words and prices as the line's lists.
use mathlib.Core.Path.{◌≡◌, refl, subst}
use mathlib.Core.Bool.{Bool, true, false, cond}
use Prim.Native.Nat.{ℕ}
use lib.ListN.{length}
use Rattle.std.specs.Prelude.{Option, Some, None}
use Rattle.journal_call_line.specs.declared.CallLine.{CallLine}
use Rattle.journal_call_line.specs.CallLine.{Reading, called, said_of}

-- a call has as many as are given; nothing is asked of a faulty line
abbrev Fits : Option CallLine → ℕ → ℕ → Type 0
Fits None n m = Unit {0}
Fits (Some l) n m = (l.words ≡ n) × (l.prices ≡ m)

pub called-fits : (r : Reading) (l : CallLine) → said_of r ≡ Some l → (l.words ≡ length r.words) × (l.prices ≡ length r.prices)
called-fits r l e =
    subst (λ (s : Option CallLine). Fits s (length r.words) (length r.prices)) e (fits r.whole)
  where
    fits : (ok : Bool) → Fits (cond ok (Some (called r.call (length r.words) (length r.prices))) None) (length r.words) (length r.prices)
    fits true = (refl, refl)
    fits false = tt
