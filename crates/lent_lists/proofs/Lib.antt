-- Laws about amounts that are written.
pub mod Written
