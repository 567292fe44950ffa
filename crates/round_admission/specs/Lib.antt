-- Bidding limits, and which bids are admitted: rules 7.6 and 7.7.
pub mod Admission
