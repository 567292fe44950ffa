-- Laws about numbers as text.
pub mod DecimalLaws
pub mod PutLaws
pub mod ReadLaws
