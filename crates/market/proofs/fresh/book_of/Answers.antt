use Rattle.market.proofs.fresh.book_of.Goals as goal

pub returns : goal.returns
returns c = rw (c.no_bidder-bidders.ensures, c.idle.ensures)
