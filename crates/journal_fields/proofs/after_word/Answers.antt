-- A word that begins a line is no longer than it (starts_fit).
use mathlib.Core.Path.{sym, ◌∙◌}
use Rattle.text_fields.proofs.ReadLaws.{starts_fit}
use Rattle.journal_fields.proofs.after_word.Goals as goal

pub behind-requires : goal.behind-requires
behind-requires c = starts_fit c.args.word.now c.args.line.now (sym c.starts_with.ensures ∙ c.if-starts_with.true)
