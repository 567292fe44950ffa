use lib.ListN.{get_or, replicate}
use borrow.Author.Rules.{rules}
use native.Mathlib.Omega.{arith}
use mathlib.Core.Path.{refl}
use Rattle.market.specs.Limits.{bidder_limit}
use Rattle.sheet_form.specs.Slots.{no_bidder_line}
use Rattle.sheet_form.specs.declared.rows.BidderLine.{BidderLine}
use Rattle.sheet_calls.proofs.SlotLaws.{none_filled, one-filled, every-filled, line-listed}
use Rattle.sheet_calls.proofs.numbers.Goals as goal

pub loop-i-init : goal.loop-i-init
loop-i-init c =
    none_filled (λ (x : BidderLine). x.bidder) c.args.lines bidder_limit 0 (replicate bidder_limit 0) refl

pub overflow_cast-number : goal.overflow_cast-number
overflow_cast-number c =
    omega (arith, line-listed c.args.lines c.loop-i.i no_bidder_line (search rules) c.requires)

pub loop-i-preserved : goal.loop-i-preserved
loop-i-preserved c =
    let lines = c.args.lines in
    let at = c.loop-i in
    one-filled (λ (x : BidderLine). x.bidder) lines bidder_limit 0 at.numbers at.i at.invariant (search rules)
    no_bidder_line (get_or lines at.i no_bidder_line).bidder (search rules) refl

pub returns : goal.returns
returns c =
    let lines = c.args.lines in
    let at = c.loop-i in
    every-filled (λ (x : BidderLine). x.bidder) lines bidder_limit 0 at.numbers at.i at.invariant (search rules) (search rules)
