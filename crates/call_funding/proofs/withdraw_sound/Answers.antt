-- On a sound book the own rows decide (own-decide). By cases on their verdict: a refusal is the rule's refusal
-- (refuses), none its answer (takes). Where no row holds, withdraw-cleared gives what the callees require: the bidder's
-- number is within the limit, and the amount may be withdrawn.
use mathlib.Core.Path.{◌≡◌, sym, ◌∙◌, ap}
use Prim.Native.Nat.{◌≤◌, ◌<◌}
use Rattle.market.proofs.SoundLaws.{bidder-within}
use Rattle.market.specs.Answers.{answered}
use Rattle.market.specs.Books.{bidder_of, with_bidder}
use Rattle.market.specs.Limits.{bidder_limit}
use Rattle.market.specs.declared.book.Bidder.{Bidder}
use Rattle.call_rules.proofs.Decides.{refuses, takes, own-decide}
use Rattle.call_rules.specs.Steps.{no_register, verdict_of}
use Rattle.call_funding.proofs.Cleared.{withdraw-cleared}
use Rattle.call_funding.specs.Withdraw.{withdrawable, debited, withdraw_refusals, withdraw}
use Rattle.call_funding.proofs.withdraw_sound.Goals.{After-check_withdrawal, In_default}
use Rattle.call_funding.proofs.withdraw_sound.Goals as goal

-- the verdict that was worked out is that of the whole table
verdict :
    (p : After-check_withdrawal)
    → p.check_withdrawal.result ≡ verdict_of (withdraw p.args.bidder p.args.from p.args.amount) p.args.book no_register
unfolding verdict_of withdraw
verdict p =
    let a = p.args in
    p.check_withdrawal.ensures ∙ sym (own-decide a.book (withdraw_refusals a.book a.bidder a.from a.amount) p.requires)

pub returns-in-Err : goal.returns-in-Err
returns-in-Err c =
    let a = c.args in
    refuses (withdraw a.bidder a.from a.amount) a.book no_register _ (verdict c.before) c.in-Err.is

-- where there is no refusal
clear : (p : In_default) → (p.args.bidder < bidder_limit) × (p.args.amount.0 ≤ withdrawable (bidder_of p.args.book p.args.bidder) p.args.from)
clear p =
    withdraw-cleared p.args.book p.args.bidder p.args.from p.args.amount
    (sym p.check_withdrawal.ensures ∙ p.in_default.is)

pub debited_bidder-next-requires : goal.debited_bidder-next-requires
debited_bidder-next-requires c = rw c.bidder.ensures (record { bidder_bounds = bidder-within c.args.book c.args.bidder c.requires; amount_bound = (clear c.before).1 })

pub returns : goal.returns
unfolding withdraw
returns c =
    let p = c.before.before.before in
    let a = c.args in
    let next = c.debited_bidder-next.ensures ∙ ap (λ (x : Bidder). debited x a.from a.amount) c.bidder.ensures in
    ap answered (c.with_bidder.ensures ∙ ap (with_bidder a.book a.bidder) next)
    ∙ takes (withdraw a.bidder a.from a.amount) a.book no_register _ (verdict p.before) p.in_default.is

pub bidder-requires : goal.bidder-requires
bidder-requires c = (clear c).0

pub with_bidder-requires : goal.with_bidder-requires
with_bidder-requires c = (clear c.before.before).0
