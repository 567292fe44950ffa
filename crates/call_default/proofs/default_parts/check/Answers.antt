-- The table is the register's rows and then default's own: a refusal of the first part is the whole table's
-- (first-refuses); where there is none default's own rows decide (second-decides), and the book is sound
-- (register-cleared).
use mathlib.Core.Path.{◌≡◌, sym, ◌∙◌}
use Rattle.std.proofs.Common.{rules}
use Rattle.std.specs.Prelude.{Err}
use Rattle.market.proofs.Tables.{second-decides}
use Rattle.register.proofs.Cleared.{register-cleared}
use Rattle.register.specs.Refusals.{register_refusals}
use Rattle.call_rules.specs.Steps.{verdict_of}
use Rattle.call_rules.proofs.Decides.{first-refuses}
use Rattle.call_default.specs.Default.{default_refusals, default}
use Rattle.call_default.proofs.default_parts.check.Goals as goal

pub returns-in_err-check : goal.returns-in_err-check
unfolding verdict_of default
returns-in_err-check c =
    let a = c.args in
    let is : c.from_residual.result ≡ Err c.in_err-check.field-0.0 = search rules in
    is
    ∙ first-refuses (register_refusals a.book a.words.now)
    (default_refusals a.book a.bidder)
    (sym c.check.ensures ∙ c.in_err-check.was)

pub check_own-requires : goal.check_own-requires
check_own-requires c =
    let a = c.args in
    (register-cleared a.book a.words.now (sym c.check.ensures ∙ c.in_ok-check.was)).sound

pub returns : goal.returns
unfolding verdict_of default
returns c =
    let a = c.args in
    c.check_own.ensures
    ∙ sym
    (second-decides (register_refusals a.book a.words.now) (default_refusals a.book a.bidder)
    (sym c.check.ensures ∙ c.in_ok-check.was))
