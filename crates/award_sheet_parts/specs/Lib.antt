-- The award sheet (rules 14.7 to 14.10).
pub mod AwardSheet
pub mod Phrases
