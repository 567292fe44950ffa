-- Rows of a journal's output (rules 15.7 and 15.8).
pub mod Rows
