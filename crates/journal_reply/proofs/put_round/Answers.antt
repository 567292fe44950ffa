-- The line is four pieces (round-pieces): the count of bids, the bids' rows, the paths' rows, byte 10. Each call writes
-- the next piece where the one before it ends (written_on), so the last call completes the line (written_all).
use native.Mathlib.Omega.{arith}
use mathlib.Core.Path.{refl, subst}
use mathlib.Core.List.{List, [], ◌∷◌, ◌++◌}
use Prim.Native.Nat.{ℕ, ◌≤◌}
use lib.ListN.{length}
use Rattle.market.specs.Limits.{bid_answer_size}
use Rattle.text_fields.specs.Fields.{newline}
use Rattle.journal_rows.specs.Rows.{row, rows}
use Rattle.text_writing.proofs.PutLaws.{WrittenTo, written_none, written-fits, written_on, written-room, written_all}
use Rattle.journal_reply.specs.Replies.{path_rows_text, round_reply}
use Rattle.journal_reply.specs.Words as words
use Rattle.journal_reply.proofs.AnswerLaws.{round-pieces}
use Rattle.journal_reply.proofs.put_round.Goals as goal

-- the pieces of the line
abbrev counted : ℕ → List ℕ
counted bids = row words.ok_mark (bids ∷ [])

abbrev answered : ℕ → List ℕ → List ℕ
answered bids answers = rows words.bar_mark bid_answer_size bids answers

abbrev offered : ℕ → List ℕ → List ℕ
offered paths results = path_rows_text paths results

-- at the start nothing of the line is written
begun :
    (out : List ℕ) (bids : ℕ) (answers : List ℕ) (paths : ℕ) (results : List ℕ)
    → length (round_reply bids answers paths results) ≤ length out
    → WrittenTo out 0 (round_reply bids answers paths results) (counted bids ++ (answered bids answers ++ (offered paths results ++ (newline ∷ [])))) 0 out
begun out bids answers paths results room =
    subst (λ (rest : List ℕ). WrittenTo out 0 (round_reply bids answers paths results) rest 0 out)
    (round-pieces bids answers paths results)
    (written_none out 0 (round_reply bids answers paths results) (omega (arith, room)))

pub put_row-counted-requires : goal.put_row-counted-requires
put_row-counted-requires c =
    let a = c.args in
    let s = begun a.out.now a.bids a.answers.now a.paths a.results.now c.requires.results_in_bounds in
    written-fits s (counted a.bids) (answered a.bids a.answers.now ++ (offered a.paths a.results.now ++ (newline ∷ []))) refl

pub put_rows-answered-requires : goal.put_rows-answered-requires
put_rows-answered-requires c =
    let a = c.args in
    let s = begun a.out.now a.bids a.answers.now a.paths a.results.now c.requires.results_in_bounds in
    let t = written_on s (counted a.bids) (answered a.bids a.answers.now ++ (offered a.paths a.results.now ++ (newline ∷ []))) refl c.put_row-counted.ensures in
    record {
      size_in_bounds = c.requires.bid_answer_size_in_bounds;
      list_in_bounds = written-fits t (answered a.bids a.answers.now) (offered a.paths a.results.now ++ (newline ∷ [])) refl;
    }

pub put_path_rows-end-requires : goal.put_path_rows-end-requires
put_path_rows-end-requires c =
    let a = c.args in
    let s = begun a.out.now a.bids a.answers.now a.paths a.results.now c.requires.results_in_bounds in
    let t =
    written_on s (counted a.bids) (answered a.bids a.answers.now ++ (offered a.paths a.results.now ++ (newline ∷ []))) refl c.put_row-counted.ensures in
    let u = written_on t (answered a.bids a.answers.now) (offered a.paths a.results.now ++ (newline ∷ [])) refl c.put_rows-answered.ensures in
    record {
      path_answer_size_in_bounds = c.requires.path_answer_size_in_bounds;
      results_in_bounds = written-fits u (offered a.paths a.results.now) (newline ∷ []) refl;
    }

pub put_bytes-requires : goal.put_bytes-requires
put_bytes-requires c =
    let a = c.args in
    let s = begun a.out.now a.bids a.answers.now a.paths a.results.now c.requires.results_in_bounds in
    let t =
    written_on s (counted a.bids) (answered a.bids a.answers.now ++ (offered a.paths a.results.now ++ (newline ∷ []))) refl
    c.put_row-counted.ensures in
    let u =
    written_on t (answered a.bids a.answers.now) (offered a.paths a.results.now ++ (newline ∷ [])) refl c.put_rows-answered.ensures in
    let v = written_on u (offered a.paths a.results.now) (newline ∷ []) refl c.put_path_rows-end.ensures in
    written-room v

pub returns : goal.returns
returns c =
    let a = c.args in
    let s = begun a.out.now a.bids a.answers.now a.paths a.results.now c.requires.results_in_bounds in
    let t =
    written_on s (counted a.bids) (answered a.bids a.answers.now ++ (offered a.paths a.results.now ++ (newline ∷ []))) refl
    c.put_row-counted.ensures in
    let u =
    written_on t (answered a.bids a.answers.now) (offered a.paths a.results.now ++ (newline ∷ [])) refl c.put_rows-answered.ensures in
    let v =
    written_on u (offered a.paths a.results.now) (newline ∷ []) refl c.put_path_rows-end.ensures in
    written_all v c.put_bytes.ensures
