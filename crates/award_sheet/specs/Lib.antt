-- What is written of a round (rule 14.10).
pub mod Rounds
