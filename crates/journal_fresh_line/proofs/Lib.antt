-- Laws about the line of a fresh book.
pub mod SlotLaws
