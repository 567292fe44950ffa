-- The promise, and the laws that it rests on.
pub mod RoundAnswers
pub mod RowReads
pub mod RunLaws
pub mod ThePromise
