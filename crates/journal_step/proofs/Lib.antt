-- Laws about a line of a journal, run.
pub mod ColumnLaws
pub mod OfferLaws
pub mod LineLaws
pub mod SaidLaws
