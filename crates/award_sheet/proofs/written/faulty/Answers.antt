-- A buffer with room for an award sheet has room for the line (`faulty-fits`).
use native.Mathlib.Omega.{arith}
use mathlib.Core.Path.{refl}
use Rattle.market.specs.Answers.{form_refusal}
use Rattle.text_writing.proofs.PutLaws.{written-room}
use Rattle.award_sheet_parts.specs.AwardSheet.{refused_line}
use Rattle.award_sheet.proofs.AwardLength.{faulty-fits}
use Rattle.award_sheet.proofs.WriterLaws.{on_start}
use Rattle.award_sheet.proofs.written.faulty.Goals as goal

pub faulty-requires : goal.faulty-requires
faulty-requires c =
    let n = c.args.line in
    let begun = on_start {whole = refused_line form_refusal n} c.start.ensures refl (omega (arith, faulty-fits n c.ranges.line.fits, c.requires)) in
    written-room begun.to
