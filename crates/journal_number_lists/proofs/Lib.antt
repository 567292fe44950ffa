-- Laws about fields of a journal's line that come one after another.
pub mod PriceLaws
pub mod SeriesLaws
pub mod FoundLaws
