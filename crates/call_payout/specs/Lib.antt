-- Payout: rules 10.2 to 10.5.
pub mod Payout
