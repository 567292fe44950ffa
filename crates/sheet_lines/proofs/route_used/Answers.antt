use mathlib.Core.Path.{sym, ◌∙◌}
use Rattle.sheet_lines.proofs.LineLaws.{route-here}
use Rattle.sheet_lines.proofs.route_used.Goals as goal

pub returns-clause-route : goal.returns-clause-route
returns-clause-route c =
    let a = c.args in
    let rest = c.numbers_used in
    c.both.ensures ∙ route-here a.bytes.now a.at (sym c.letter_at.ensures ∙ c.if-not-letter_at.false) rest.result rest.ensures.numbers
