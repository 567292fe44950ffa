-- Every reply fits: how long a reply is at most.
use mathlib.Core.List.{List, [], ◌∷◌, ◌++◌}
use Prim.Native.Nat.{ℕ, zero, suc, ◌+◌, ◌*◌, ◌≤◌}
use native.Mathlib.Omega.{arith}
use Rattle.std.specs.Prelude.{Result, Ok, Err}
use lib.ListN.{length, take, drop, length-append, length-take}
use Rattle.market.specs.Answers.{bids_in}
use Rattle.market.specs.Limits.{bidder_limit, bid_limit, bid_answer_size, path_limit, path_answer_size}
use Rattle.market.specs.declared.answer.Answer.{Answer}
use Rattle.market.specs.declared.answer.Answer.TheVariants.{Done, Drawn, Bids}
use Rattle.text_fields.specs.Fields.{newline}
use Rattle.journal_rows.specs.Rows.{row, rows}
use Rattle.journal_rows.proofs.RowLaws.{row-most, last-row-most, rows-most}
use Rattle.journal_reply.specs.Replies.{reply_room, path_rows_text, round_reply, done_text, reply_text}
use Rattle.journal_reply.specs.Words as words
use Rattle.journal_reply.specs.declared.Told.{Told}
use Rattle.journal_reply.specs.declared.Told.TheVariants.{Nothing, Listed}

-- a path's row has a mark and three numbers
paths-most : (paths : ℕ) (results : List ℕ) → length (path_rows_text paths results) ≤ paths * 65
paths-most zero results = omega arith
paths-most (suc k) results =
    let first = row words.slash_mark (take path_answer_size results) in
    let others = rows words.bar_mark path_answer_size k (drop path_answer_size results) in
    omega (
      arith,
      row-most words.slash_mark (take path_answer_size results),
      length-take path_answer_size results,
      rows-most words.bar_mark path_answer_size 65 (omega arith) k (drop path_answer_size results),
      length-append first others,
    )

-- a bid's row has a mark and four numbers
pub round-most : (bids : ℕ) (answers : List ℕ) (paths : ℕ) (results : List ℕ) → length (round_reply bids answers paths results) ≤ 26 + bids * 86 + paths * 65
round-most bids answers paths results =
    let counted = row words.ok_mark (bids ∷ []) in
    let answered = rows words.bar_mark bid_answer_size bids answers in
    let offered = path_rows_text paths results in
    omega (
      arith,
      row-most words.ok_mark (bids ∷ []),
      rows-most words.bar_mark bid_answer_size 86 (omega arith) bids answers,
      paths-most paths results,
      length-append counted answered,
      length-append (counted ++ answered) offered,
      length-append (counted ++ answered ++ offered) (newline ∷ []),
    )

done-most : (told : Told) (list : List ℕ) → length list ≤ bidder_limit → length (done_text told list) ≤ reply_room
done-most Nothing list few = omega (arith, last-row-most words.ok_mark [])
done-most Listed list few = omega (arith, last-row-most words.ok_mark list)

-- the reply to any call fits
pub reply-fits :
    (answer :
    Result Answer ℕ) (told : Told) (list answers : List ℕ) (paths : ℕ) (results : List ℕ) → length list ≤ bidder_limit → bids_in answer ≤ bid_limit → paths ≤ path_limit
    → length (reply_text answer told list answers paths results) ≤ reply_room
unfolding reply_text
reply-fits (Err n) told list answers paths results few bids within = omega (arith, last-row-most words.refused_mark (n ∷ []))
reply-fits (Ok Done) told list answers paths results few bids within = done-most told list few
reply-fits (Ok (Drawn d)) told list answers paths results few bids within = omega (arith, last-row-most words.ok_mark (d.0 ∷ []))
reply-fits (Ok (Bids n)) told list answers paths results few bids within = omega (arith, round-most n answers paths results)
