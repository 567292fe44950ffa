use mathlib.Core.Path.{refl}
use lib.ListN.{length}
use Rattle.text_fields.specs.Fields.{count_line}
use Rattle.sheet_lines.specs.Lines.{part_word}
use Rattle.sheet_lines.specs.declared.part.Part.TheVariants.{Bidders}
use Rattle.text_writing.proofs.PutLaws.{written_none, written-room, written-fits, written_next, written_all}
use Rattle.award_sheet_parts.specs.AwardSheet.{bidders_text}
use Rattle.award_sheet_parts.proofs.bidder_lines.put_bidders.Goals as goal

pub put_count-next-requires : goal.put_count-next-requires
put_count-next-requires c =
    let a = c.args in
    let begun = written_none a.out.now a.at (bidders_text a.book a.listed.now) c.requires.listed_in_bounds in
    written-fits begun (count_line (part_word Bidders) (length a.listed.now)) _ refl

pub put_bidder_lines-requires : goal.put_bidder_lines-requires
put_bidder_lines-requires c =
    let a = c.args in
    let begun = written_none a.out.now a.at (bidders_text a.book a.listed.now) c.requires.listed_in_bounds in
    record {
      listed_value = c.requires.listed_value;
      listed_in_bounds = written-room (written_next begun c.put_count-next.ensures);
    }

pub returns : goal.returns
returns c =
    let a = c.args in
    let begun = written_none a.out.now a.at (bidders_text a.book a.listed.now) c.requires.listed_in_bounds in
    written_all (written_next begun c.put_count-next.ensures) c.put_bidder_lines.ensures
