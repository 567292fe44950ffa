-- A round on the award sheet (rules 14.9 and 14.10).
pub mod RoundLines
pub mod Phrases
