-- The stage after a round: rule 7.15.
use Rattle.std.specs.Prelude.{cond, ℕ, eqb}
use Rattle.market.specs.declared.book.Kind.{Kind}
use Rattle.market.specs.declared.book.Kind.TheVariants.{Short, Long}
use Rattle.market.specs.declared.book.Period.{Period}
use Rattle.market.specs.declared.book.Stage.{Stage}
use Rattle.market.specs.declared.book.Stage.TheVariants.{Idle, Open}

-- rule 7.15: after the first round of L comes the second, and after every other the book is idle
abbrev pub after_round : Kind → ℕ → Period → Stage
after_round Short round period = Idle
after_round Long round period = cond (eqb round 1) (Open Long 2 period) Idle

-- rule 7.15: the stage after a round; with no auction open there is none
abbrev pub stage_after : Stage → Stage
stage_after Idle = Idle
stage_after (Open kind round period) = after_round kind round period
