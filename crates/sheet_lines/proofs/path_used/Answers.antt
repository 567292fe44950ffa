use native.Mathlib.Omega.{arith}
use mathlib.Core.Path.{◌∙◌}
use Rattle.sheet_lines.proofs.LineLaws.{path-here}
use Rattle.sheet_lines.proofs.path_used.Goals as goal

pub returns-clause-path : goal.returns-clause-path
returns-clause-path c =
    let a = c.args in
    let path = c.field_at-path in
    let route = c.route_used in
    c.both.ensures ∙ path-here a.bytes.now a.at a.number path.result path.ensures.field (omega arith) route.result route.ensures.route
