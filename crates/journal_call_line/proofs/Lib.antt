-- Laws about the lines of a journal.
pub mod FormLaws
pub mod LengthLaws
