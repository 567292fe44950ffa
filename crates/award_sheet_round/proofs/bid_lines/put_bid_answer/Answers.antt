-- The end of a line in two pieces, the mark with its space and the value with its newline (`field-piece`): the mark is
-- added by `written_next`, and the value by `written_all`.
use mathlib.Core.Path.{refl}
use mathlib.Core.List.{List, [], ◌∷◌, ◌++◌}
use Prim.Native.Nat.{ℕ}
use Rattle.text_fields.specs.Fields.{space, newline, field_text}
use Rattle.call_round.specs.Answers.{mark_in, value_in}
use Rattle.text_writing.proofs.PutLaws.{written_from, written-room, written-fits, written_next, written_all}
use Rattle.text_writing.proofs.PieceLaws.{field-piece}
use Rattle.award_sheet_round.specs.RoundLines.{mark_word}
use Rattle.award_sheet_round.proofs.bid_lines.put_bid_answer.Goals as goal

abbrev word : List ℕ → ℕ → List ℕ
word answers bid = mark_word (mark_in answers bid)

abbrev value : List ℕ → ℕ → List ℕ
value answers bid = field_text (value_in answers bid) newline

pub put_mark-marked-requires : goal.put_mark-marked-requires
put_mark-marked-requires c =
    let a = c.args in
    let l = a.answers.now in
    let begun = written_from (field-piece (word l a.bid) space (value l a.bid)) c.requires.bid_in_bounds in
    written-fits begun (word l a.bid ++ (space ∷ [])) (value l a.bid) refl

pub put_field-requires : goal.put_field-requires
put_field-requires c =
    let a = c.args in
    let l = a.answers.now in
    let begun = written_from (field-piece (word l a.bid) space (value l a.bid)) c.requires.bid_in_bounds in
    written-room (written_next begun c.put_mark-marked.ensures)

pub returns : goal.returns
returns c =
    let a = c.args in
    let l = a.answers.now in
    let begun = written_from (field-piece (word l a.bid) space (value l a.bid)) c.requires.bid_in_bounds in
    written_all (written_next begun c.put_mark-marked.ensures) c.put_field.ensures
