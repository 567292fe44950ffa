use Rattle.call_pay.proofs.pay_parts.paid_bidder.Goals as goal

pub returns : goal.returns
returns c = rw c.fallen.ensures
