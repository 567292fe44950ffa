-- The market's book: its limits (rule 1.6), its parts (rules 2.1 to 2.6), what a sound one is (rules 4.1 to 4.7), the fresh book (rule 2.7), and
-- how calls answer and refuse (rules 13.100 and 13.101).
pub mod Limits
pub mod Answers
pub mod Books
pub mod Sound
pub mod Fresh
