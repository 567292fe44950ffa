use lib.ListN.{replicate}
use borrow.Author.Rules.{rules}
use mathlib.Core.Path.{refl}
use Rattle.market.specs.Limits.{bidder_limit}
use Rattle.call_funding.proofs.DepositLaws.{nothing_asked}
use Rattle.sheet_form.specs.Slots.{no_bidder_line}
use Rattle.sheet_calls.specs.Calls.{deposits_of}
use Rattle.sheet_calls.proofs.SlotLaws.{none_filled, one-filled, every-filled, line-listed}
use Rattle.sheet_calls.proofs.deposits.all_deposits.Goals as goal

pub loop-i-init : goal.loop-i-init
loop-i-init c = none_filled deposits_of c.args.lines bidder_limit nothing_asked (replicate bidder_limit nothing_asked) refl

pub deposits_of-asked-requires : goal.deposits_of-asked-requires
deposits_of-asked-requires c =
    let s = c.before.before.before in
    line-listed s.args.lines c.loop-i.i no_bidder_line (search rules) s.requires

pub loop-i-preserved : goal.loop-i-preserved
loop-i-preserved c =
    let lines = c.args.lines in
    let at = c.loop-i in
    one-filled deposits_of lines bidder_limit nothing_asked at.bidders at.i at.invariant (search rules) no_bidder_line c.deposits_of-asked.result (search rules) c.deposits_of-asked.ensures

pub returns : goal.returns
returns c =
    let at = c.loop-i in
    every-filled deposits_of c.args.lines bidder_limit nothing_asked at.bidders at.i at.invariant (search rules) (search rules)
