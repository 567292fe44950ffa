-- The hour of a payout, its prices, and what one MW earns in it: rules 10.2 and 10.4.
pub mod Hours
