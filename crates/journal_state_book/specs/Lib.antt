-- What a journal prints of the state (rule 15.8).
pub mod Words
pub mod States
