-- How a pool is shared: rules 11.4 to 11.6.
pub mod Sharing
