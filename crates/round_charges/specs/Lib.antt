-- What a round charges its bids, and its answers for them: rules 7.11, 7.13 and 7.17.
pub mod Charges
