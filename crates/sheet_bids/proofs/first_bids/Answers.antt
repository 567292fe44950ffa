use Rattle.sheet_bids.proofs.SectionPlaces.{first-section}
use Rattle.sheet_bids.proofs.first_bids.Goals as goal

pub returns-clause-section : goal.returns-clause-section
returns-clause-section c = first-section c.args.bytes.now c.args.found c.requires
