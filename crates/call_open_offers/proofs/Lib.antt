-- Laws about what an auction offers.
pub mod OfferLaws
