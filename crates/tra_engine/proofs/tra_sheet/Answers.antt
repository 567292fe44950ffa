-- By cases on the reply of sheet_output::output, which its contract names: a written count is stored and 0 is returned,
-- a refusal's number is returned and the count stays; the buffer is as sheet_output::output leaves it.
use mathlib.Core.Path.{sym, ◌∙◌, ap}
use Prim.Native.Nat.{ℕ}
use Rattle.market.specs.declared.answer.Refusal.{Refusal}
use Rattle.std.specs.Prelude.{Result}
use Rattle.tra_engine.specs.Library.{reply_number, reply_count}
use Rattle.tra_engine.proofs.tra_sheet.Goals as goal

pub returns-in-Ok : goal.returns-in-Ok
returns-in-Ok c =
    let told = c.output.ensures in
    let is = sym c.in-Ok.is ∙ told.answer in
    record {
      number = ap reply_number is;
      buffer = told.buffer;
      count = ap (λ (r : Result ℕ Refusal). reply_count r c.args.used.now) is;
    }

pub returns-in-Err : goal.returns-in-Err
returns-in-Err c =
    let told = c.output.ensures in
    let is = sym c.in-Err.is ∙ told.answer in
    record {
      number = c.number.ensures ∙ ap reply_number is;
      buffer = told.buffer;
      count = ap (λ (r : Result ℕ Refusal). reply_count r c.args.used.now) is;
    }
