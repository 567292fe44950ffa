-- By cases on the answer: each arm writes one piece that is the whole reply (reply-refused, reply-done, reply-drawn,
-- reply-round). The limits on the bids, the paths and the list make every reply fit the buffer (reply-fits).
use native.Mathlib.Omega.{arith}
use mathlib.Core.Path.{refl}
use mathlib.Core.List.{List, [], ◌∷◌}
use Prim.Native.Nat.{ℕ, ◌≤◌}
use Rattle.std.specs.Prelude.{Result}
use lib.ListN.{length}
use Rattle.market.specs.Answers.{bids_in}
use Rattle.market.specs.Limits.{bidder_limit, bid_limit, path_limit}
use Rattle.market.specs.declared.answer.Answer.{Answer}
use Rattle.journal_reply.specs.declared.Told.{Told}
use Rattle.journal_rows.specs.Rows.{last_row}
use Rattle.text_writing.proofs.PutLaws.{WrittenTo, written_none, written-fits, written_on, written-done}
use Rattle.journal_reply.specs.Replies.{reply_room, round_reply, done_text, reply_text}
use Rattle.journal_reply.specs.Words as words
use Rattle.journal_reply.proofs.AnswerLaws.{told-is, reply-refused, reply-done, reply-drawn, reply-round}
use Rattle.journal_reply.proofs.LengthLaws.{reply-fits}
use Rattle.journal_reply.proofs.put_reply.Goals as goal

-- at the start nothing of the reply is written, and it fits
begun :
    (out : List ℕ) (answer : Result Answer ℕ) (told : Told) (list answers : List ℕ) (paths : ℕ) (results : List ℕ)
    → reply_room ≤ length out → length list ≤ bidder_limit → bids_in answer ≤ bid_limit → paths ≤ path_limit
    → WrittenTo out 0 (reply_text answer told list answers paths results) (reply_text answer told list answers paths results) 0 out
begun out answer told list answers paths results room few bids most =
    written_none out 0 (reply_text answer told list answers paths results)
    (omega (arith, reply-fits answer told list answers paths results few bids most, room))

pub put_last_row-requires : goal.put_last_row-requires
put_last_row-requires c =
    let a = c.args in
    let r = c.requires in
    let start = begun a.out.now a.answer a.told a.list.now a.answers.now a.paths a.results.now r.reply_room_in_bounds r.list_len_bound r.answer_bound.0
    r.paths_le_path_limit.0 in
    let e = reply-refused a.told a.list.now a.answers.now a.paths a.results.now c.in-Err.is in
    let piece = last_row words.refused_mark (c.in-Err.number ∷ []) in
    written-fits start piece [] e

pub put_done-requires : goal.put_done-requires
put_done-requires c =
    let a = c.args in
    let r = c.requires in
    let start = begun a.out.now a.answer a.told a.list.now a.answers.now a.paths a.results.now r.reply_room_in_bounds r.list_len_bound r.answer_bound.0
    r.paths_le_path_limit.0 in
    let e = reply-done a.told a.list.now a.answers.now a.paths a.results.now (told-is c.in-Ok.is c.in-Done.is) in
    let piece = done_text a.told a.list.now in
    omega (arith, written-fits start piece [] e)

pub put_last_row-requires-in-Drawn : goal.put_last_row-requires-in-Drawn
put_last_row-requires-in-Drawn c =
    let a = c.args in
    let r = c.requires in
    let start = begun a.out.now a.answer a.told a.list.now a.answers.now a.paths a.results.now r.reply_room_in_bounds r.list_len_bound r.answer_bound.0
    r.paths_le_path_limit.0 in
    let e = reply-drawn a.told a.list.now a.answers.now a.paths a.results.now (told-is c.in-Ok.is c.in-Drawn.is) in
    let piece = last_row words.ok_mark (c.in-Drawn.draw.0 ∷ []) in
    written-fits start piece [] e

pub put_round-requires : goal.put_round-requires
put_round-requires c =
    let a = c.args in
    let r = c.requires in
    let start = begun a.out.now a.answer a.told a.list.now a.answers.now a.paths a.results.now r.reply_room_in_bounds r.list_len_bound r.answer_bound.0
    r.paths_le_path_limit.0 in
    let e = reply-round a.told a.list.now a.answers.now a.paths a.results.now (told-is c.in-Ok.is c.in-Bids.is) in
    let piece = round_reply c.in-Bids.bids a.answers.now a.paths a.results.now in
    let few = rw (told-is c.in-Ok.is c.in-Bids.is) at r.answer_bound.1 in
    record {
      bid_answer_size_in_bounds = few;
      path_answer_size_in_bounds = r.paths_le_path_limit.1;
      results_in_bounds = omega (arith, written-fits start piece [] e);
    }

pub returns-in-Err : goal.returns-in-Err
returns-in-Err c =
    let a = c.args in
    let r = c.requires in
    let start = begun a.out.now a.answer a.told a.list.now a.answers.now a.paths a.results.now r.reply_room_in_bounds r.list_len_bound r.answer_bound.0
    r.paths_le_path_limit.0 in
    let e = reply-refused a.told a.list.now a.answers.now a.paths a.results.now c.in-Err.is in
    let piece = last_row words.refused_mark (c.in-Err.number ∷ []) in
    let put = c.put_last_row in
    written-done (written_on start piece [] e put.ensures) refl

pub returns-in-Done : goal.returns-in-Done
returns-in-Done c =
    let a = c.args in
    let r = c.requires in
    let start = begun a.out.now a.answer a.told a.list.now a.answers.now a.paths a.results.now r.reply_room_in_bounds r.list_len_bound r.answer_bound.0
    r.paths_le_path_limit.0 in
    let e = reply-done a.told a.list.now a.answers.now a.paths a.results.now (told-is c.in-Ok.is c.in-Done.is) in
    let piece = done_text a.told a.list.now in
    let put = c.put_done in
    written-done (written_on start piece [] e put.ensures) refl

pub returns-in-Drawn : goal.returns-in-Drawn
returns-in-Drawn c =
    let a = c.args in
    let r = c.requires in
    let start = begun a.out.now a.answer a.told a.list.now a.answers.now a.paths a.results.now r.reply_room_in_bounds r.list_len_bound r.answer_bound.0
    r.paths_le_path_limit.0 in
    let e = reply-drawn a.told a.list.now a.answers.now a.paths a.results.now (told-is c.in-Ok.is c.in-Drawn.is) in
    let piece = last_row words.ok_mark (c.in-Drawn.draw.0 ∷ []) in
    let put = c.put_last_row-in-Drawn in
    written-done (written_on start piece [] e put.ensures) refl

pub returns-in-Bids : goal.returns-in-Bids
returns-in-Bids c =
    let a = c.args in
    let r = c.requires in
    let start = begun a.out.now a.answer a.told a.list.now a.answers.now a.paths a.results.now r.reply_room_in_bounds r.list_len_bound r.answer_bound.0
    r.paths_le_path_limit.0 in
    let e = reply-round a.told a.list.now a.answers.now a.paths a.results.now (told-is c.in-Ok.is c.in-Bids.is) in
    let piece = round_reply c.in-Bids.bids a.answers.now a.paths a.results.now in
    let put = c.put_round in
    written-done (written_on start piece [] e put.ensures) refl
