-- A text in two pieces, the count line and the lines of the awards. `winner_count` gives the number that the rule's
-- count line says, and each piece is written where the one before it ends (`written_next`, then `written_all`).
use mathlib.Core.Path.{refl, sym, ap}
use mathlib.Core.List.{List, ◌++◌}
use Prim.Native.Nat.{ℕ}
use Rattle.text_fields.specs.Fields.{count_line}
use Rattle.round_bids.specs.Bids.{bids_of}
use Rattle.text_writing.proofs.PutLaws.{written_from, written-room, written-fits, written_next, written_all}
use Rattle.award_sheet_round.specs.RoundLines.{award_lines}
use Rattle.award_sheet_round.specs.Phrases.{awards_word}
use Rattle.award_sheet_round.proofs.put_awards_part.Goals as goal

-- the count line with `k` in it, and the lines
abbrev text : List ℕ → List ℕ → ℕ → List ℕ
text answers words k = count_line awards_word k ++ award_lines answers 0 (bids_of words)

pub put_count-next-requires : goal.put_count-next-requires
put_count-next-requires c =
    let a = c.args in
    let begun = written_from (sym (ap (text a.answers.now a.words.now) c.winner_count-count.ensures)) c.requires.words_in_bounds in
    written-fits begun (count_line awards_word c.winner_count-count.result) _ refl

pub put_award_lines-requires : goal.put_award_lines-requires
put_award_lines-requires c =
    let a = c.args in
    let begun = written_from (sym (ap (text a.answers.now a.words.now) c.winner_count-count.ensures)) c.requires.words_in_bounds in
    record {
      bid_list = c.requires.bid_list;
      bid_answer_words_in_bounds = c.requires.bid_answer_words_in_bounds;
      words_in_bounds = written-room (written_next begun c.put_count-next.ensures);
    }

pub returns : goal.returns
returns c =
    let a = c.args in
    let begun = written_from (sym (ap (text a.answers.now a.words.now) c.winner_count-count.ensures)) c.requires.words_in_bounds in
    written_all (written_next begun c.put_count-next.ensures) c.put_award_lines.ensures
