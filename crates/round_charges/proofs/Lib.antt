-- Laws about what a round leaves for its bids.
pub mod ChargeLaws
pub mod RowLaws
