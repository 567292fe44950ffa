-- One case for each row of the table: each callee decides one row's test, so what it ensures rewrites that row to true
-- or false; in the last case every row is false.
use mathlib.Core.Path.{sym, ◌∙◌}
use Rattle.call_open.proofs.check_own.Goals as goal

pub returns-then-not-sound_period : goal.returns-then-not-sound_period
returns-then-not-sound_period c =
    rw (
      sym c.is_idle.ensures ∙ c.if-not-is_idle.false,
      sym c.no_values.ensures ∙ c.if-not-no_values.false,
      sym c.sound_period.ensures ∙ c.if-not-sound_period.true,
    )

pub returns-then-not-all_sound : goal.returns-then-not-all_sound
returns-then-not-all_sound c =
    rw (
      sym c.is_idle.ensures ∙ c.if-not-is_idle.false,
      sym c.no_values.ensures ∙ c.if-not-no_values.false,
      sym c.sound_period.ensures ∙ c.if-not-sound_period.false,
      sym c.all_sound.ensures ∙ c.if-not-all_sound.true,
    )

pub returns : goal.returns
returns c =
    rw (
      sym c.is_idle.ensures ∙ c.if-not-is_idle.false,
      sym c.no_values.ensures ∙ c.if-not-no_values.false,
      sym c.sound_period.ensures ∙ c.if-not-sound_period.false,
      sym c.all_sound.ensures ∙ c.if-not-all_sound.false,
    )
