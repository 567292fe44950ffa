-- Laws about the calls of a sheet up to open.
-- Laws about the calls before the first round.
pub mod QuantityLaws
pub mod OpeningLaws
pub mod KeepDeposits
pub mod CallLaws
pub mod SlotLaws
