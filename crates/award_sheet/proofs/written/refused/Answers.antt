-- A buffer with room for an award sheet has room for the line (`refused-fits`).
use native.Mathlib.Omega.{arith}
use mathlib.Core.Path.{refl}
use Rattle.text_writing.proofs.PutLaws.{written-room}
use Rattle.award_sheet_parts.specs.AwardSheet.{refused_text}
use Rattle.award_sheet.proofs.AwardLength.{refused-fits}
use Rattle.award_sheet.proofs.WriterLaws.{on_start}
use Rattle.award_sheet.proofs.written.refused.Goals as goal

pub refused-requires : goal.refused-requires
refused-requires c =
    let n = c.args.number in
    let begun = on_start {whole = refused_text n} c.start.ensures refl (omega (arith, refused-fits n c.ranges.number.fits, c.requires)) in
    written-room begun.to
