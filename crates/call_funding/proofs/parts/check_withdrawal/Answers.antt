-- The table is the common rows and one row more. A refusal of the common rows is the whole table's (first-refuses); where
-- they give none the last row decides (second-decides), which compares the amount with what may be withdrawn, as the
-- code does.
use mathlib.Core.Path.{◌≡◌, sym, ◌∙◌, ap}
use mathlib.Core.List.{[], ◌∷◌}
use mathlib.Core.Bool.{Bool, not, cond}
use Prim.Native.Nat.{ℕ}
use lib.Dec.{leb}
use borrow.Author.Tests.{le-leb, lt-leb}
use Rattle.std.proofs.Common.{rules}
use Rattle.std.specs.Prelude.{Err}
use Rattle.market.proofs.SoundLaws.{bidder-within}
use Rattle.market.proofs.Tables.{second-decides}
use Rattle.market.specs.Answers.{◌gives◌, no_refusal}
use Rattle.market.specs.Books.{bidder_of}
use Rattle.market.specs.declared.answer.Refusal.{Refusal}
use Rattle.market.specs.declared.book.Bidder.{Bidder}
use Rattle.call_rules.proofs.Decides.{first-refuses}
use Rattle.call_funding.proofs.Cleared.{number-cleared}
use Rattle.call_funding.specs.Funding.{funding_refusals}
use Rattle.call_funding.specs.Withdraw.{withdrawable}
use Rattle.call_funding.proofs.parts.check_withdrawal.Goals as goal

pub returns-in_err-check_common : goal.returns-in_err-check_common
returns-in_err-check_common c =
    let a = c.args in
    let is : c.from_residual.result ≡ Err c.in_err-check_common.field-0.0 = search rules in
    is
    ∙ first-refuses (funding_refusals a.bidder a.amount)
    ((not (leb a.amount.0 (withdrawable (bidder_of a.book a.bidder) a.from)) gives Refusal.Withdrawal) ∷ [])
    (sym c.check_common.ensures ∙ c.in_err-check_common.was)

pub bidder-requires : goal.bidder-requires
bidder-requires c =
    let a = c.args in
    number-cleared a.bidder a.amount (sym c.check_common.ensures ∙ c.in_ok-check_common.was)

pub withdrawable_of-most-requires : goal.withdrawable_of-most-requires
withdrawable_of-most-requires c =
    let a = c.args in
    rw c.bidder.ensures (bidder-within a.book a.bidder c.requires)

pub returns-then-amount-most : goal.returns-then-amount-most
returns-then-amount-most c =
    let a = c.args in
    let none = sym c.check_common.ensures ∙ c.in_ok-check_common.was in
    let most =
    ap (λ (x : Bidder). withdrawable x a.from) (sym c.bidder.ensures)
    ∙ sym c.withdrawable_of-most.ensures
    in
    sym
    (second-decides (funding_refusals a.bidder a.amount) ((not (leb a.amount.0 (withdrawable (bidder_of a.book a.bidder) a.from)) gives Refusal.Withdrawal) ∷ []) none
    ∙ ap (λ (n : ℕ). cond (not (leb a.amount.0 n)) (Err Refusal.Withdrawal) no_refusal) most
    ∙ ap (λ (t : Bool). cond (not t) (Err Refusal.Withdrawal) no_refusal) (le-leb _ _ c.if-amount-most.true))

pub returns-else-amount-most : goal.returns-else-amount-most
returns-else-amount-most c =
    let a = c.args in
    let none = sym c.check_common.ensures ∙ c.in_ok-check_common.was in
    let most =
    ap (λ (x : Bidder). withdrawable x a.from) (sym c.bidder.ensures)
    ∙ sym c.withdrawable_of-most.ensures
    in
    sym
    (second-decides (funding_refusals a.bidder a.amount) ((not (leb a.amount.0 (withdrawable (bidder_of a.book a.bidder) a.from)) gives Refusal.Withdrawal) ∷ []) none
    ∙ ap (λ (n : ℕ). cond (not (leb a.amount.0 n)) (Err Refusal.Withdrawal) no_refusal) most
    ∙ ap (λ (t : Bool). cond (not t) (Err Refusal.Withdrawal) no_refusal) (lt-leb _ _ c.if-amount-most.false))
