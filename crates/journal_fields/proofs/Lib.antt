-- Laws about the fields of a journal's line.
pub mod NumeralLaws
pub mod FieldLaws
pub mod RunLaws
