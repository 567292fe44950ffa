-- The table is the common rows and one row more. A refusal of the common rows is the whole table's (first-refuses); where
-- they give none the last row decides (second-decides), and has_room decided its test.
use mathlib.Core.Path.{◌≡◌, sym, ◌∙◌, ap}
use mathlib.Core.List.{[], ◌∷◌}
use mathlib.Core.Bool.{Bool, not, cond}
use Rattle.std.proofs.Common.{rules}
use Rattle.std.specs.Prelude.{Err}
use Rattle.market.proofs.SoundLaws.{bidder-within}
use Rattle.market.proofs.Tables.{second-decides}
use Rattle.market.specs.Answers.{◌gives◌, no_refusal}
use Rattle.market.specs.Books.{bidder_of}
use Rattle.market.specs.declared.answer.Refusal.{Refusal}
use Rattle.market.specs.declared.book.Bidder.{Bidder}
use Rattle.call_rules.proofs.Decides.{first-refuses}
use Rattle.call_funding.proofs.Cleared.{number-cleared}
use Rattle.call_funding.specs.Funding.{funding_refusals}
use Rattle.call_funding.specs.Deposit.{has_room}
use Rattle.call_funding.proofs.parts.check_deposit.Goals as goal

pub returns-in_err-check_common : goal.returns-in_err-check_common
returns-in_err-check_common c =
    let a = c.args in
    let is : c.from_residual.result ≡ Err c.in_err-check_common.field-0.0 = search rules in
    is
    ∙ first-refuses (funding_refusals a.bidder a.amount)
    ((not (has_room (bidder_of a.book a.bidder) a.to a.amount) gives Refusal.Amount) ∷ [])
    (sym c.check_common.ensures ∙ c.in_err-check_common.was)

pub bidder-requires : goal.bidder-requires
bidder-requires c =
    let a = c.args in
    number-cleared a.bidder a.amount (sym c.check_common.ensures ∙ c.in_ok-check_common.was)

pub has_room-requires : goal.has_room-requires
has_room-requires c =
    let a = c.args in
    rw c.bidder.ensures (bidder-within a.book a.bidder c.requires)

pub returns-then-has_room : goal.returns-then-has_room
returns-then-has_room c =
    let a = c.args in
    let none = sym c.check_common.ensures ∙ c.in_ok-check_common.was in
    let room =
    ap (λ (x : Bidder). has_room x a.to a.amount) (sym c.bidder.ensures)
    ∙ sym c.has_room.ensures
    ∙ c.if-has_room.true
    in
    sym
    (second-decides (funding_refusals a.bidder a.amount) ((not (has_room (bidder_of a.book a.bidder) a.to a.amount) gives Refusal.Amount) ∷ []) none
    ∙ ap (λ (t : Bool). cond (not t) (Err Refusal.Amount) no_refusal) room)

pub returns-else-has_room : goal.returns-else-has_room
returns-else-has_room c =
    let a = c.args in
    let none = sym c.check_common.ensures ∙ c.in_ok-check_common.was in
    let room =
    ap (λ (x : Bidder). has_room x a.to a.amount) (sym c.bidder.ensures)
    ∙ sym c.has_room.ensures
    ∙ c.if-has_room.false
    in
    sym
    (second-decides (funding_refusals a.bidder a.amount) ((not (has_room (bidder_of a.book a.bidder) a.to a.amount) gives Refusal.Amount) ∷ []) none
    ∙ ap (λ (t : Bool). cond (not t) (Err Refusal.Amount) no_refusal) room)
