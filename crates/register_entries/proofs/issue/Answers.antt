use mathlib.Core.Path.{◌∙◌, ap}
use Rattle.register.specs.Entries.{issued_to}
use Rattle.register.proofs.EntryLaws.{change-next}
use Rattle.register_entries.proofs.issue.Goals as goal

pub loop-i-preserved : goal.loop-i-preserved
loop-i-preserved c =
    let a = c.args in
    let at = c.loop-i in
    let f = issued_to a.bidder in
    c.put.ensures
    ∙ change-next f a.words.now at.i at.words c.issued_to-entry.result at.invariant
    (c.issued_to-entry.ensures ∙ ap f c.read.ensures)
