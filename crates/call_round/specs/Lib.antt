-- The round as a whole, rules 7.12 to 7.19, and how its answers are read.
pub mod Answers
pub mod Padded
pub mod Ready
pub mod Round
