-- The rounds of a sheet, and the output after them (rules 14.6, 14.7 and 14.9).
pub mod Rounds
