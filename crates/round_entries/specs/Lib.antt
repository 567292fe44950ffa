-- The winning bids of a round, and their entries: rules 7.12 and 13.23.
pub mod Entries
