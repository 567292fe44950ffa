-- One line of a journal, run (rules 15.1 to 15.7).
pub mod LineStep
