-- The two fields of the result apart: the count is that of the section (`section-count`), and the slots hold its lines
-- up to the number of slots (`section-capped`).
use native.Mathlib.Omega.{arith}
use mathlib.Core.Path.{ap₂}
use mathlib.Core.List.{List}
use Prim.Native.Nat.{ℕ}
use Rattle.market.specs.Limits.{path_limit}
use Rattle.sheet_lines.specs.declared.part.Part.TheVariants.{Paths}
use Rattle.sheet_form.specs.Reading.{path_line_at}
use Rattle.sheet_form.specs.Slots.{no_path_line}
use Rattle.sheet_form.specs.declared.rows.PathLine.{PathLine}
use Rattle.sheet_form.specs.declared.rows.PathRows.{PathRows}
use Rattle.sheet_reading.proofs.SlotLaws.{section-count, section-capped}
use Rattle.sheet_reading.proofs.paths_of.Goals as goal

pub returns : goal.returns
returns c =
    let a = c.args in
    let said = c.count_line-said in
    let slots = c.path_slots in
    ap₂ (λ (n : ℕ) (xs : List PathLine). let r : PathRows = record { count = n; lines = xs } in r)
    (section-count Paths path_line_at a.bytes.now a.at said.result.used said.result.value said.ensures.used said.ensures.value)
    (section-capped Paths path_line_at a.bytes.now a.at said.result.used said.result.value said.ensures.used said.ensures.value path_limit no_path_line slots.result c.min-few.result
    (omega (arith, c.min-few.ensures)) slots.ensures)
