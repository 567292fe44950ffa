use Rattle.sheet_reading.proofs.SaidLaws.{route-said}
use Rattle.sheet_reading.proofs.route_at.Goals as goal

pub returns : goal.returns
returns c =
    let a = c.args in
    let way = c.direction_at-direction in
    let place = c.two_on in
    route-said a.bytes.now a.at way.result place.result c.numbers_at.result way.ensures place.ensures.place c.numbers_at.ensures
