-- The reply that a journal prints to each call (rule 15.7).
pub mod Words
pub mod Replies
