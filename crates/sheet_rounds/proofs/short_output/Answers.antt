-- By cases: the round is refused, and the output is its number (`one-refused`), or it is answered, and `one-done` gives
-- all that `put_one` requires, that the sheet fits the buffer above all, and that the sheet is the output.
use mathlib.Core.Path.{sym, ◌∙◌, ap}
use native.Mathlib.Omega.{arith}
use Rattle.market.proofs.Tables.{told-number, told-none, told-above}
use Rattle.market.specs.Answers.{answer_number}
use Rattle.market.specs.declared.answer.Outcome.{Outcome}
use Rattle.text_numbers.proofs.PutLaws.{put_is}
use Rattle.sheet_rounds.proofs.RoundDone.{one-refused, one-done}
use Rattle.sheet_rounds.proofs.short_output.Goals as goal

pub returns-in-Err : goal.returns-in-Err
returns-in-Err c =
    let a = c.args in
    let o = c.round_of-outcome.result in
    let told = sym c.numbered.ensures ∙ c.in-Err.is in
    let is = told-number o.answer told ∙ ap (λ (o : Outcome). answer_number o.answer) c.round_of-outcome.ensures.outcome in
    put_is (one-refused a.book a.bids.now a.listed.now is (told-above o.answer told)) c.refused.ensures

-- the round was answered
pub put_one-requires : goal.put_one-requires
put_one-requires c =
    let a = c.args in
    let p = c.requires in
    let e = c.round_of-outcome.ensures in
    let d =
    one-done a.book a.bids.now a.listed.now p.sound_memory p.listed_len_bound p.listed_value e.outcome e.bids e.paths
    (told-none c.round_of-outcome.result.answer (sym c.numbered.ensures ∙ c.in_default.is)) in
    record {
      answered = d.lists;
      path_count_bound = d.paths;
      listed_value = p.listed_value;
      listed_in_bounds = omega (arith, d.fits, p.award_sheet_bytes_in_bounds);
    }

pub returns : goal.returns
returns c =
    let a = c.args in
    let p = c.requires in
    let e = c.round_of-outcome.ensures in
    let d =
    one-done a.book a.bids.now a.listed.now p.sound_memory p.listed_len_bound p.listed_value e.outcome e.bids e.paths
    (told-none c.round_of-outcome.result.answer (sym c.numbered.ensures ∙ c.in_default.is)) in
    put_is d.output c.put_one.ensures
