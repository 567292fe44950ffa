-- Retire: rule 9.1.
pub mod Retire
