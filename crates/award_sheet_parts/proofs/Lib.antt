-- Laws about writing an award sheet.
pub mod BidderLaws
