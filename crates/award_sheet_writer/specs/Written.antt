-- The writer of an award sheet (rule 14.11): the output buffer and how much of it is written, at first and after the next text.
use Rattle.std.specs.Prelude.{List, ℕ, ◌+◌, length}
use denote.Ref.{MutBor, at_last}
use Rattle.text_numbers.specs.Put.{put_at}
use Rattle.round_bids.specs.Bids.{bids_of}
use Rattle.award_sheet_round.specs.RoundLines.{round_text}
use Rattle.award_sheet_writer.specs.declared.Writer.{Writer}

-- rule 14.11: the output stands at the front of the buffer, on which nothing is written yet
abbrev pub empty_writer : MutBor (List ℕ) → Writer
empty_writer out = record { out = out; filled = 0 }

-- rule 14.11: the next text stands where the one before it ends, and the bytes after it stay
abbrev pub writer_after : Writer → List ℕ → Writer
writer_after w text = record { out = at_last w.out (put_at w.out.now w.filled text); filled = w.filled + length text }

-- a round of the bids that these words encode, as it was answered
abbrev pub answered_text : ℕ → List ℕ → List ℕ → List ℕ → List ℕ
answered_text paths words answers results =
    round_text paths (record { bids = bids_of words; answers = answers; results = results })
