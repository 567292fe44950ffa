-- The lines of a journal (rules 15.2 and 15.3).
pub mod CallLine
