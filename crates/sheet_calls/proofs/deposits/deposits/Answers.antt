-- `deposit_all` ensures the rule of the deposits asked for, which are those of the lines, slot by slot; the first ones
-- are those of the first lines (`map-take`).
use mathlib.Core.Path.{sym, ◌∙◌, ap}
use mathlib.Core.List.{List}
use lib.ListN.{take}
use Rattle.market.proofs.KindLaws.{map-take}
use Rattle.call_funding.specs.Deposits.{list_deposits}
use Rattle.call_funding.specs.declared.BidderDeposits.{BidderDeposits}
use Rattle.sheet_calls.specs.Calls.{deposits_of}
use Rattle.sheet_calls.proofs.deposits.deposits.Goals as goal

pub returns : goal.returns
returns c =
    let a = c.args in
    let count = a.rows.count in
    c.deposit_all.ensures
    ∙ ap (λ (l : List BidderDeposits). list_deposits a.book (take count l)) c.all_deposits.ensures
    ∙ ap (list_deposits a.book) (sym (map-take deposits_of count a.rows.lines))

pub all_deposits-requires : goal.all_deposits-requires
all_deposits-requires c = c.requires
