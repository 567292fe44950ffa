-- Laws about lines on lent words.
pub mod LineLaws
pub mod JournalLaws
