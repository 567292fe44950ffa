-- The library's functions, from what is lent to what they leave (rule 16.1).
pub mod Library
