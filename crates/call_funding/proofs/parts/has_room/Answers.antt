-- By cases on cash or letter: the code compares the amount with what the limit leaves, the rule compares the sum with
-- the limit. The two tests agree since what the bidder has already is within the limit (leb-left).
use Rattle.market.proofs.Tests.{leb-left}
use Rattle.market.specs.Limits.{money_limit}
use Rattle.market.specs.Books.{held_of}
use Rattle.call_funding.proofs.parts.has_room.Goals as goal

pub returns-in-Cash : goal.returns-in-Cash
returns-in-Cash c =
    let a = c.args in
    rw c.in-Cash.is (leb-left (held_of a.bidder) a.amount.0 money_limit c.requires.held)

pub returns-in-Letter : goal.returns-in-Letter
returns-in-Letter c =
    let a = c.args in
    rw c.in-Letter.is (leb-left a.bidder.letter.0 a.amount.0 money_limit c.requires.letter)
