-- Laws about the register's words and entries.
pub mod Cleared
pub mod EntryLaws
pub mod WordLaws
