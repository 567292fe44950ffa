-- Laws about lists of bids.
pub mod Arrays
pub mod BidLaws
pub mod EncodingLaws
pub mod ReadLaws
pub mod ValueLaws
pub mod Walk
pub mod Turns
