-- The table is the register's rows and then one for the day: a refusal of the first part is the whole table's
-- (first-refuses); where there is none the day's row decides (second-decides), which the second `if` tests.
use mathlib.Core.Path.{◌≡◌, sym, ◌∙◌, ap}
use mathlib.Core.Bool.{Bool, cond, not}
use borrow.Author.Tests.{le-leb, lt-leb}
use Rattle.std.proofs.Common.{rules}
use Rattle.std.specs.Prelude.{Err}
use Rattle.market.proofs.Tables.{second-decides}
use Rattle.market.specs.Answers.{no_refusal}
use Rattle.market.specs.Limits.{day_limit}
use Rattle.market.specs.declared.answer.Refusal.{Refusal}
use Rattle.register.specs.Refusals.{register_refusals}
use Rattle.call_rules.proofs.Decides.{first-refuses}
use Rattle.call_rules.specs.Steps.{verdict_of}
use Rattle.call_retire.specs.Retire.{retire_refusals, retire}
use Rattle.call_retire.proofs.check.Goals as goal

pub returns-in_err-check : goal.returns-in_err-check
unfolding verdict_of retire
returns-in_err-check c =
    let a = c.args in
    let is : c.from_residual.result ≡ Err c.in_err-check.field-0.0 = search rules in
    is ∙ first-refuses (register_refusals a.book a.words.now) (retire_refusals a.day) (sym c.check.ensures ∙ c.in_err-check.was)

pub returns-then-day-gt-DAY_LIMIT : goal.returns-then-day-gt-DAY_LIMIT
unfolding verdict_of retire
returns-then-day-gt-DAY_LIMIT c =
    let a = c.args in
    sym
    (second-decides (register_refusals a.book a.words.now) (retire_refusals a.day) (sym c.check.ensures ∙ c.in_ok-check.was)
    ∙ ap (λ (t : Bool). cond (not t) (Err Refusal.Days) no_refusal) (lt-leb a.day.0 day_limit c.if-day-gt-DAY_LIMIT.true))

pub returns : goal.returns
unfolding verdict_of retire
returns c =
    let a = c.args in
    sym
    (second-decides (register_refusals a.book a.words.now) (retire_refusals a.day) (sym c.check.ensures ∙ c.in_ok-check.was)
    ∙ ap (λ (t : Bool). cond (not t) (Err Refusal.Days) no_refusal) (le-leb a.day.0 day_limit c.if-day-gt-DAY_LIMIT.false))
