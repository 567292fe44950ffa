-- On a sound book the own rows decide (own-decide). By cases on their verdict: a refusal is the rule's refusal
-- (refuses), none its answer (takes). Where no row holds, deposit-cleared gives what the callees require: the bidder's
-- number is within the limit, and there is room for the amount.
use mathlib.Core.Path.{◌≡◌, sym, ◌∙◌, ap}
use mathlib.Core.Bool.{true}
use Prim.Native.Nat.{◌<◌}
use Rattle.market.specs.Answers.{answered}
use Rattle.market.specs.Books.{bidder_of, with_bidder}
use Rattle.market.specs.Limits.{bidder_limit}
use Rattle.market.specs.declared.book.Bidder.{Bidder}
use Rattle.call_rules.proofs.Decides.{refuses, takes, own-decide}
use Rattle.call_rules.specs.Steps.{no_register, verdict_of}
use Rattle.call_funding.proofs.Cleared.{deposit-cleared}
use Rattle.call_funding.specs.Deposit.{has_room, with_deposit, deposit_refusals, deposit}
use Rattle.call_funding.proofs.deposits.deposit_sound.Goals.{After-check_deposit, In_default}
use Rattle.call_funding.proofs.deposits.deposit_sound.Goals as goal

-- the verdict that was worked out is that of the whole table
verdict :
    (p : After-check_deposit)
    → p.check_deposit.result ≡ verdict_of (deposit p.args.bidder p.args.to p.args.amount) p.args.book no_register
unfolding verdict_of deposit
verdict p =
    let a = p.args in
    p.check_deposit.ensures ∙ sym (own-decide a.book (deposit_refusals a.book a.bidder a.to a.amount) p.requires)

pub returns-in-Err : goal.returns-in-Err
returns-in-Err c =
    let a = c.args in
    refuses (deposit a.bidder a.to a.amount) a.book no_register _ (verdict c.before) c.in-Err.is

-- where there is no refusal
clear : (p : In_default) → (p.args.bidder < bidder_limit) × (has_room (bidder_of p.args.book p.args.bidder) p.args.to p.args.amount ≡ true)
clear p =
    deposit-cleared p.args.book p.args.bidder p.args.to p.args.amount
    (sym p.check_deposit.ensures ∙ p.in_default.is)

pub credited_bidder-next-requires : goal.credited_bidder-next-requires
credited_bidder-next-requires c = rw c.bidder.ensures (clear c.before).1

pub returns : goal.returns
unfolding deposit
returns c =
    let p = c.before.before.before in
    let a = c.args in
    let next = c.credited_bidder-next.ensures ∙ ap (λ (x : Bidder). with_deposit x a.to a.amount) c.bidder.ensures in
    ap answered (c.with_bidder.ensures ∙ ap (with_bidder a.book a.bidder) next)
    ∙ takes (deposit a.bidder a.to a.amount) a.book no_register _ (verdict p.before) p.in_default.is

pub bidder-requires : goal.bidder-requires
bidder-requires c = (clear c).0

pub with_bidder-requires : goal.with_bidder-requires
with_bidder-requires c = (clear c.before.before).0
