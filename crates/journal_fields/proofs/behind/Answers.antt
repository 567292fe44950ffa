use native.Mathlib.Omega.{arith}
use lib.ListN.{length, drop, length-drop}
use lib.Seq.{take_all}
use Prim.Native.Nat.{◌-◌}
use Rattle.journal_fields.proofs.behind.Goals as goal

pub returns : goal.returns
returns c =
    let a = c.args in
    take_all (length a.line.now - a.at) (drop a.at a.line.now) (omega (arith, length-drop a.at a.line.now))
