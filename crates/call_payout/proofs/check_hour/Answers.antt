use mathlib.Core.Path.{sym, ◌∙◌}
use borrow.Author.Tests.{le-leb, lt-leb}
use Rattle.call_payout.proofs.check_hour.Goals as goal

pub returns-then-day-gt-DAY_LIMIT : goal.returns-then-day-gt-DAY_LIMIT
returns-then-day-gt-DAY_LIMIT c = rw (lt-leb _ _ c.if-day-gt-DAY_LIMIT.true)

pub returns-then-failed : goal.returns-then-failed
returns-then-failed c = rw (le-leb _ _ c.if-day-gt-DAY_LIMIT.false, c.if-failed.true)

pub returns-then-not-all_sound : goal.returns-then-not-all_sound
returns-then-not-all_sound c = rw (le-leb _ _ c.if-day-gt-DAY_LIMIT.false, c.if-failed.false, sym c.all_sound.ensures ∙ c.if-not-all_sound.true)

pub returns : goal.returns
returns c = rw (le-leb _ _ c.if-day-gt-DAY_LIMIT.false, c.if-failed.false, sym c.all_sound.ensures ∙ c.if-not-all_sound.false)
