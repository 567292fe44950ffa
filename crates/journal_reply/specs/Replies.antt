-- The reply to each line of a journal (rule 15.7), and the room that a reply needs (rule 16.2).
use Rattle.std.specs.Prelude.{Result, Ok, Err, List, [], ◌∷◌, ◌++◌, ℕ, zero, suc, drop, take}
use Rattle.market.specs.Limits.{bid_answer_size, path_answer_size}
use Rattle.market.specs.declared.answer.Answer.{Answer}
use Rattle.market.specs.declared.answer.Answer.TheVariants.{Done, Drawn, Bids}
use Rattle.text_fields.specs.Fields.{newline}
use Rattle.journal_rows.specs.Rows.{row, last_row, rows}
use Rattle.journal_reply.specs.Words as words
use Rattle.journal_reply.specs.declared.Told.{Told}
use Rattle.journal_reply.specs.declared.Told.TheVariants.{Nothing, Listed}

-- rule 16.2: 65,536 bytes are room for the reply to any call
abbrev pub reply_room : ℕ
reply_room = 65536

-- rule 15.7: of a round, after the slash, the words of each path (rule 7.18)
abbrev pub path_rows_text : ℕ → List ℕ → List ℕ
path_rows_text zero results = []
path_rows_text (suc k) results = row words.slash_mark (take path_answer_size results) ++ rows words.bar_mark path_answer_size k (drop path_answer_size results)

-- rule 15.7: `= ok N | M V W C | .. / O S P | ..`, with the words of each bid (rule 7.17)
abbrev pub round_reply : ℕ → List ℕ → ℕ → List ℕ → List ℕ
round_reply bids answers paths results =
    row words.ok_mark (bids ∷ []) ++ rows words.bar_mark bid_answer_size bids answers ++ path_rows_text paths results ++ (newline ∷ [])

-- rule 15.7: `= ok`, and after it what the call tells: the offers of open, or 32 amounts
abbrev pub done_text : Told → List ℕ → List ℕ
done_text Nothing list = last_row words.ok_mark []
done_text Listed list = last_row words.ok_mark list

-- rule 15.7: the reply to a call, of which a refused one gives its number; `list` is the list that it tells, if any, and `answers` and
-- `results` are those of a round
unfoldable pub reply_text : Result Answer ℕ → Told → List ℕ → List ℕ → ℕ → List ℕ → List ℕ
reply_text (Err number) told list answers paths results = last_row words.refused_mark (number ∷ [])
reply_text (Ok Done) told list answers paths results = done_text told list
reply_text (Ok (Drawn d)) told list answers paths results = last_row words.ok_mark (d.0 ∷ [])
reply_text (Ok (Bids n)) told list answers paths results = round_reply n answers paths results
