-- The fields of a line (rules 14.1 and 14.2).
pub mod Fields
