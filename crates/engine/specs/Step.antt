-- What a call leaves, whichever of the eleven it is: by its rule, from the memory at entry.
use Rattle.std.specs.Prelude.{◌≡◌, List, ℕ}
use Rattle.market.specs.declared.book.Book.{Book}
use Rattle.call_rules.specs.Steps.{Left, ScratchAfter, step_by}
use Rattle.engine.specs.Lent.{Lent, lists_of}
use Rattle.engine.specs.Rules.{rule_of}
use Rattle.engine.specs.declared.calls.Call.{Call}

-- what a call leaves of a book, of the words of the register and of the lists
abbrev pub step : Book → List ℕ → Call → Lent → Left
step b words what l = step_by (rule_of what l) b words (lists_of l)

-- a book, the words of the register and the lists at entry; then what is left of them at exit, and the scratch
pub record Leaves (b : Book) (words : List ℕ) (what : Call) (l : Lent) (after : Left) (scratch : List ℕ) : Type 0 where
  pub by-rule : after ≡ step b words what l
  pub scratch-left : ScratchAfter (rule_of what l) b words l.scratch scratch
