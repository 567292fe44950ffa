-- By cases on cash or letter: the room that is required keeps the sum within the money limit, so it fits a word, and
-- the bidder that the callee ensures is the rule's.
use Prim.Native.Nat.{◌+◌}
use native.Mathlib.Omega.{arith}
use borrow.Author.Tests.{leb-true}
use Rattle.market.specs.Limits.{money_limit}
use Rattle.market.specs.Books.{held_of}
use Rattle.call_funding.proofs.parts.credited_bidder.Goals as goal

pub overflow_add-cash : goal.overflow_add-cash
overflow_add-cash c =
    let a = c.args in
    let room = leb-true (held_of a.bidder + a.amount.0) money_limit (rw c.in-Cash.is at c.requires) in
    record { fits = omega arith }

pub overflow_add-letter : goal.overflow_add-letter
overflow_add-letter c =
    let a = c.args in
    let room = leb-true (a.bidder.letter.0 + a.amount.0) money_limit (rw c.in-Letter.is at c.requires) in
    record { fits = omega arith }

pub returns-in-Cash : goal.returns-in-Cash
returns-in-Cash c = rw c.in-Cash.is c.with_cash.ensures

pub returns-in-Letter : goal.returns-in-Letter
returns-in-Letter c = rw c.in-Letter.is c.with_letter.ensures
