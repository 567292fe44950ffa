use mathlib.Core.Path.{ap}
use native.Mathlib.Omega.{arith}
use lib.ListN.{length}
use Rattle.text_numbers.proofs.DecimalLaws.{decimal-one}
use Rattle.text_numbers.proofs.PutLaws.{digits-between}
use Rattle.text_numbers.proofs.digits_of.Goals as goal

pub returns-then-n-eq0 : goal.returns-then-n-eq0
returns-then-n-eq0 c = omega (arith, ap length (decimal-one c.args.n (omega arith)))

pub returns : goal.returns
returns c =
    let log = c.ilog10 in
    digits-between c.args.n log.result (omega arith) log.ensures.power_le log.ensures.next_power_gt log.ensures.bound
