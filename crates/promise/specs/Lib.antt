-- The promise over every list of calls (rules 12.1 to 12.11), and what it speaks of.
pub mod Runs
pub mod Answered
pub mod Sums
pub mod Promise
