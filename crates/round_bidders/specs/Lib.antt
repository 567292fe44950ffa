-- What a round leaves for bidders: rules 7.13 and 7.14.
pub mod Bidders
