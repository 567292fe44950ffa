-- A text in two pieces, the count line and the lines of the paths: the first is added by `written_next`, which leaves
-- the room that the second needs, and the second by `written_all`.
use mathlib.Core.Path.{refl}
use Rattle.text_fields.specs.Fields.{count_line}
use Rattle.sheet_lines.specs.Lines.{part_word}
use Rattle.sheet_lines.specs.declared.part.Part.TheVariants.{Paths}
use Rattle.text_writing.proofs.PutLaws.{written_none, written-room, written-fits, written_next, written_all}
use Rattle.award_sheet_round.specs.RoundLines.{paths_part}
use Rattle.award_sheet_round.proofs.put_paths_part.Goals as goal

pub put_count-next-requires : goal.put_count-next-requires
put_count-next-requires c =
    let a = c.args in
    let begun = written_none a.out.now a.at (paths_part a.results.now a.paths) c.requires.paths_in_bounds in
    written-fits begun (count_line (part_word Paths) a.paths) _ refl

pub put_path_lines-requires : goal.put_path_lines-requires
put_path_lines-requires c =
    let a = c.args in
    let begun = written_none a.out.now a.at (paths_part a.results.now a.paths) c.requires.paths_in_bounds in
    record {
      paths_le_path_limit = c.requires.paths_le_path_limit;
      path_answer_words_in_bounds = c.requires.path_answer_words_in_bounds;
      paths_in_bounds = written-room (written_next begun c.put_count-next.ensures);
    }

pub returns : goal.returns
returns c =
    let a = c.args in
    let begun = written_none a.out.now a.at (paths_part a.results.now a.paths) c.requires.paths_in_bounds in
    written_all (written_next begun c.put_count-next.ensures) c.put_path_lines.ensures
