-- The fields of a journal's line (rules 15.1 and 15.3).
pub mod JournalFields
