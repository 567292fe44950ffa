-- The writer of an award sheet (rule 14.11).
pub mod Written
