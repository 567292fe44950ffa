use Rattle.call_funding.proofs.parts.withdrawable_of.Goals as goal

pub returns-in-Letter : goal.returns-in-Letter
returns-in-Letter c = rw c.in-Letter.is
