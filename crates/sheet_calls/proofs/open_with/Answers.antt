-- No branch: the quantities of all slots are cut to the paths counted, which are no more than the slots
-- (`counted_words`), and so `open` is called with exactly the arguments of the rule (`open_is`).
use borrow.Author.Rules.{rules}
use Rattle.sheet_calls.proofs.OpeningLaws.{counted_words, open_is}
use Rattle.sheet_calls.proofs.open_with.Goals as goal

pub slice_bounds-open-end-2 : goal.slice_bounds-open-end-2
slice_bounds-open-end-2 c =
    let a = c.before.before.before.before.before in
    counted_words c.quantities-all.result a.args.paths.count (search rules) a.requires

pub returns : goal.returns
returns c =
    let a = c.args in
    let words = c.quantities-all in
    open_is a.book a.kind a.period a.paths words.result words.ensures c.«open».result c.«open».ensures
