use Rattle.sheet_reading.proofs.SaidLaws.{behind-number}
use Rattle.sheet_reading.proofs.path_at.Goals as goal

pub returns : goal.returns
returns c =
    let a = c.args in
    let number = c.field_at-number in
    behind-number a.bytes.now a.at number.result c.route_at.result number.ensures.field c.route_at.ensures
