-- What the library's function `tra_sheet` returns, and the lent count after it (rule 16.1). `tra_line` is `line_on` of
-- library_line/specs/LibraryLine.antt; `tra_release` and `tra_rules` give the constants of rule 1.6.
use Rattle.std.specs.Prelude.{ℕ, Result, Ok, Err}
use Rattle.market.specs.Answers.{refusal_number}
use Rattle.market.specs.declared.answer.Refusal.{Refusal}

-- rule 16.1: 0 where the work was done, or 1 for a short buffer
abbrev pub reply_number : Result ℕ Refusal → ℕ
reply_number (Ok count) = 0
reply_number (Err refusal) = refusal_number refusal

-- rule 16.1: the count of bytes written; with 1 the count stays
abbrev pub reply_count : Result ℕ Refusal → ℕ → ℕ
reply_count (Ok count) before = count
reply_count (Err refusal) before = before
