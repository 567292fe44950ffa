-- Laws about fields: a field that is written is read, one that is read is in the text as it is written, and fields at a place.
pub mod FieldLaws
pub mod ReadLaws
