-- Laws about bidding limits and marks.
pub mod LimitLaws
pub mod MarkLaws
