-- Without paths the text is empty (path-rows-none). Otherwise it is the first path's row after a slash and then the
-- rows of the others after bars (path-rows-some), and the two calls write these two pieces in that order.
use native.Mathlib.Omega.{arith}
use Prim.Native.Nat.{◌*◌, ◌-◌, ◌≤◌, ◌<◌}
use lib.ListN.{length, take, drop, length-take, length-drop}
use Rattle.market.specs.Limits.{path_answer_size}
use Rattle.journal_rows.specs.Rows.{row, rows}
use Rattle.text_writing.proofs.PutLaws.{written_none, written-fits, written_on, written-room, written_all, written-done}
use Rattle.journal_reply.specs.Replies.{path_rows_text}
use Rattle.journal_reply.specs.Words as words
use Rattle.journal_reply.proofs.AnswerLaws.{path-rows-some, path-rows-none}
use Rattle.journal_reply.proofs.put_path_rows.Goals as goal

pub returns-then-paths-eq0 : goal.returns-then-paths-eq0
returns-then-paths-eq0 c =
    let start = c in
    let a = start.args in
    let s = written_none a.out.now a.at (path_rows_text a.paths a.results.now) start.requires.results_in_bounds in
    written-done s (path-rows-none a.paths a.results.now c.if-paths-eq0.true)

pub put_row-next-requires : goal.put_row-next-requires
put_row-next-requires c =
    let start = c in
    let a = start.args in
    let l = a.results.now in
    let some : 0 < a.paths = omega (arith, c.if-paths-eq0.false) in
    let first = row words.slash_mark (take path_answer_size l) in
    let others = rows words.bar_mark path_answer_size (a.paths - 1) (take (length l - path_answer_size) (drop path_answer_size l)) in
    let e = path-rows-some a.paths l some in
    let s = written_none a.out.now a.at (path_rows_text a.paths l) start.requires.results_in_bounds in
    written-fits s first others e

pub put_rows-requires : goal.put_rows-requires
put_rows-requires c =
    let start = c in
    let a = start.args in
    let l = a.results.now in
    let some : 0 < a.paths = omega (arith, c.if-paths-eq0.false) in
    let first = row words.slash_mark (take path_answer_size l) in
    let others = rows words.bar_mark path_answer_size (a.paths - 1) (take (length l - path_answer_size) (drop path_answer_size l)) in
    let e = path-rows-some a.paths l some in
    let s = written_none a.out.now a.at (path_rows_text a.paths l) start.requires.results_in_bounds in
    let put = c.put_row-next in
    let t = written_on s first others e put.ensures in
    let few : (a.paths - 1) * path_answer_size ≤ length (take (length l - path_answer_size) (drop path_answer_size l)) =
    simp (length-take, length-drop) (omega (arith, start.requires.path_answer_size_in_bounds, some)) in
    record {
      size_in_bounds = few;
      list_in_bounds = written-room t;
    }

pub returns : goal.returns
returns c =
    let start = c in
    let a = start.args in
    let l = a.results.now in
    let some : 0 < a.paths = omega (arith, c.if-paths-eq0.false) in
    let first = row words.slash_mark (take path_answer_size l) in
    let others = rows words.bar_mark path_answer_size (a.paths - 1) (take (length l - path_answer_size) (drop path_answer_size l)) in
    let e = path-rows-some a.paths l some in
    let s = written_none a.out.now a.at (path_rows_text a.paths l) start.requires.results_in_bounds in
    let put = c.put_row-next in
    let next = c.put_rows in
    let t = written_on s first others e put.ensures in
    written_all t next.ensures
