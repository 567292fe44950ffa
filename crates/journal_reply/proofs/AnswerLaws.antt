-- Laws about replies, piece by piece.
use mathlib.Core.Path.{◌≡◌, sym, ◌∙◌, ap}
use mathlib.Core.List.{List, [], ◌∷◌, ◌++◌, append_assoc, append-nil}
use Prim.Native.Nat.{ℕ, suc, ◌-◌, ◌≤◌, ◌<◌}
use native.Mathlib.Omega.{arith}
use Rattle.std.specs.Prelude.{Result, Ok, Err}
use lib.ListN.{length, take, drop, length-drop}
use lib.Seq.{take_all}
use Rattle.market.specs.Limits.{bid_answer_size, path_answer_size}
use Rattle.market.specs.declared.answer.Answer.{Answer}
use Rattle.market.specs.declared.answer.Answer.TheVariants.{Done, Drawn, Bids}
use Rattle.market.specs.declared.units.Cents.{Cents}
use Rattle.text_fields.specs.Fields.{newline}
use Rattle.journal_rows.specs.Rows.{row, last_row, rows}
use Rattle.journal_reply.specs.Replies.{path_rows_text, round_reply, done_text, reply_text}
use Rattle.journal_reply.specs.Words as words
use Rattle.journal_reply.specs.declared.Told.{Told}

-- the first path's row, and those of the others
pub path-rows-some :
    (paths :
    ℕ) (results : List ℕ) → 0 < paths
    → path_rows_text paths results
    ≡ row words.slash_mark (take path_answer_size results) ++ rows words.bar_mark path_answer_size (paths - 1) (take (length results - path_answer_size) (drop path_answer_size results))
path-rows-some paths results some =
    let more : paths ≡ suc (paths - 1) = omega arith in
    let others = drop path_answer_size results in
    let all : length others ≤ length results - path_answer_size = omega (arith, length-drop path_answer_size results) in
    ap (λ (n : ℕ). path_rows_text n results) more
    ∙ ap (λ (l : List ℕ). row words.slash_mark (take path_answer_size results) ++ rows words.bar_mark path_answer_size (paths - 1) l) (sym (take_all (length results - path_answer_size) others all))

pub path-rows-none : (paths : ℕ) (results : List ℕ) → paths ≡ 0 → path_rows_text paths results ≡ []
path-rows-none paths results none = ap (λ (n : ℕ). path_rows_text n results) none

-- how many bids, their rows, the paths' rows, the line's end
pub round-pieces :
    (bids :
    ℕ) (answers : List ℕ) (paths : ℕ) (results : List ℕ)
    → round_reply bids answers paths results ≡ row words.ok_mark (bids ∷ []) ++ (rows words.bar_mark bid_answer_size bids answers ++ (path_rows_text paths results ++ (newline ∷ [])))
round-pieces bids answers paths results =
    let counted = row words.ok_mark (bids ∷ []) in
    let answered = rows words.bar_mark bid_answer_size bids answers in
    append_assoc (counted ++ answered) (path_rows_text paths results) (newline ∷ [])
    ∙ append_assoc counted answered (path_rows_text paths results ++ (newline ∷ []))

-- what a call answers, by the answer that was matched in it; a refusal may be itself or its number
pub told-is : {R : Type 0} {answer : Result Answer R} {given other : Answer} → answer ≡ Ok given → given ≡ other → answer ≡ Ok other
told-is {R} is same = is ∙ ap (λ (x : Answer). the-answer x) same
  where
    the-answer : Answer → Result Answer R
    the-answer x = Ok x

-- the reply by the answer of its call, as one piece with nothing after it
module _ {answer : Result Answer ℕ} (told : Told) (list answers : List ℕ) (paths : ℕ) (results : List ℕ) where
  reply-as : {other : Result Answer ℕ} → answer ≡ other → reply_text answer told list answers paths results ≡ reply_text other told list answers paths results ++ []
  reply-as {other} is =
      ap (λ (x : Result Answer ℕ). reply_text x told list answers paths results) is
      ∙ sym (append-nil (reply_text other told list answers paths results))

  pub reply-refused : {n : ℕ} → answer ≡ Err n → reply_text answer told list answers paths results ≡ last_row words.refused_mark (n ∷ []) ++ []
  unfolding reply_text
  reply-refused is = reply-as is

  pub reply-done : answer ≡ Ok Done → reply_text answer told list answers paths results ≡ done_text told list ++ []
  unfolding reply_text
  reply-done is = reply-as is

  pub reply-drawn : {d : Cents} → answer ≡ Ok (Drawn d) → reply_text answer told list answers paths results ≡ last_row words.ok_mark (d.0 ∷ []) ++ []
  unfolding reply_text
  reply-drawn is = reply-as is

  pub reply-round : {n : ℕ} → answer ≡ Ok (Bids n) → reply_text answer told list answers paths results ≡ round_reply n answers paths results ++ []
  unfolding reply_text
  reply-round is = reply-as is
