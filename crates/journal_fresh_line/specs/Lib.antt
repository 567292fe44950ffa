-- The line of a fresh book (rule 15.2).
pub mod FreshLines
