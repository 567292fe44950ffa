use mathlib.Core.Path.{refl}
use Rattle.text_writing.proofs.PutLaws.{written_none, written-room, written-fits, written_next, written_all}
use Rattle.award_sheet_parts.specs.AwardSheet.{award_title_line, title_text}
use Rattle.award_sheet_parts.proofs.title.put_title.Goals as goal

pub put_title_line-next-requires : goal.put_title_line-next-requires
put_title_line-next-requires c =
    let a = c.args in
    let begun = written_none a.out.now a.at (title_text a.rounds) c.requires in
    written-fits begun award_title_line _ refl

pub put_count-requires : goal.put_count-requires
put_count-requires c =
    let a = c.args in
    let begun = written_none a.out.now a.at (title_text a.rounds) c.requires in
    written-room (written_next begun c.put_title_line-next.ensures)

pub returns : goal.returns
returns c =
    let a = c.args in
    let begun = written_none a.out.now a.at (title_text a.rounds) c.requires in
    written_all (written_next begun c.put_title_line-next.ensures) c.put_count.ensures
