-- A book written in words, and read back (rules 16.3 and 16.4).
pub mod BookWords
pub mod Parts
