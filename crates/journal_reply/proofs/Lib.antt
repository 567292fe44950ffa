-- Laws about what a journal prints.
pub mod AnswerLaws
pub mod LengthLaws
