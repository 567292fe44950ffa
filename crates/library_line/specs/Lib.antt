-- A line of a journal on lent words (rules 16.1 to 16.5).
pub mod LibraryLine
