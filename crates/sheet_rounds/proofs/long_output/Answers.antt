-- By cases: the first round is refused (`first-refused`), the second is (`second-refused`), or both are answered
-- (`two-done`). `second_is`: the second call, with the book and the register that the first left, is the rule's second
-- round.
use mathlib.Core.Path.{sym, ◌∙◌, ap}
use native.Mathlib.Omega.{arith}
use Rattle.market.proofs.Tables.{told-number, told-none, told-above}
use Rattle.market.specs.Answers.{answer_number}
use Rattle.market.specs.declared.answer.Outcome.{Outcome}
use Rattle.text_numbers.proofs.PutLaws.{put_is}
use Rattle.sheet_rounds.proofs.TwoRounds.{first-refused, second-refused, second_is, two-done}
use Rattle.sheet_rounds.proofs.long_output.Goals as goal

pub returns-in-Err : goal.returns-in-Err
returns-in-Err c =
    let a = c.args in
    let o = c.round_of-first.result in
    let told = sym c.numbered.ensures ∙ c.in-Err.is in
    let is = told-number o.answer told ∙ ap (λ (o : Outcome). answer_number o.answer) c.round_of-first.ensures.outcome in
    put_is (first-refused a.book a.bids.now a.later.now a.listed.now is (told-above o.answer told)) c.refused.ensures

pub returns-in-Err-numbered : goal.returns-in-Err-numbered
returns-in-Err-numbered c =
    let a = c.args in
    let e = c.round_of-first.ensures in
    let none = ap (λ (o : Outcome). answer_number o.answer) (sym e.outcome) ∙ told-none c.round_of-first.result.answer (sym c.numbered.ensures ∙ c.in_default.is) in
    let last = second_is a.book a.bids.now a.later.now e.outcome e.register c.round_of-second.ensures.outcome in
    let o = c.round_of-second.result in
    let told = sym c.numbered-2.ensures ∙ c.in-Err-numbered.is in
    let is = told-number o.answer told ∙ ap (λ (o : Outcome). answer_number o.answer) last in
    put_is (second-refused a.book a.bids.now a.later.now a.listed.now none is (told-above o.answer told)) c.refused-in-Err-numbered.ensures

-- both rounds were answered
pub put_two-requires : goal.put_two-requires
put_two-requires c =
    let a = c.args in
    let p = c.requires in
    let e = c.round_of-first.ensures in
    let f = c.round_of-second.ensures in
    let d =
    two-done a.book a.bids.now a.later.now a.listed.now p.sound_memory p.listed_len_bound p.listed_value e.outcome e.register e.bids e.paths
    f.outcome f.bids f.paths (told-none c.round_of-first.result.answer (sym c.numbered.ensures ∙ c.in_default.is))
    (told-none c.round_of-second.result.answer (sym c.numbered-2.ensures ∙ c.in_default-numbered.is)) in
    record {
      answered = d.lists;
      answered_2 = d.later-lists;
      path_count_bound = d.paths;
      listed_value = p.listed_value;
      listed_in_bounds = omega (arith, d.fits, p.award_sheet_bytes_in_bounds);
    }

pub returns : goal.returns
returns c =
    let a = c.args in
    let p = c.requires in
    let e = c.round_of-first.ensures in
    let f = c.round_of-second.ensures in
    let d =
    two-done a.book a.bids.now a.later.now a.listed.now p.sound_memory p.listed_len_bound p.listed_value e.outcome e.register e.bids e.paths
    f.outcome f.bids f.paths (told-none c.round_of-first.result.answer (sym c.numbered.ensures ∙ c.in_default.is))
    (told-none c.round_of-second.result.answer (sym c.numbered-2.ensures ∙ c.in_default-numbered.is)) in
    put_is d.output c.put_two.ensures
