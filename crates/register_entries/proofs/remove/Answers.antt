use mathlib.Core.Path.{◌∙◌}
use Rattle.register.proofs.EntryLaws.{kept-within, kept-count, kept-words}
use Rattle.register_entries.proofs.remove.Goals as goal

pub loop-i-preserved : goal.loop-i-preserved
loop-i-preserved c =
    let a = c.args in
    let at = c.loop-i in
    record {
      kept = c.keep-kept.ensures.count ∙ kept-count a.what a.words.now at.words at.i at.kept at.invariant.words at.invariant.kept;
      words = c.keep-kept.ensures.words ∙ kept-words a.what a.words.now at.words at.i at.kept at.invariant.words at.invariant.kept;
    }

pub keep-kept-requires-clause-kept_le_i : goal.keep-kept-requires-clause-kept_le_i
keep-kept-requires-clause-kept_le_i c =
    let at = c.loop-i in
    kept-within c.args.what c.args.words.now at.words at.i at.kept at.invariant.words at.invariant.kept
