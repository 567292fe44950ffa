-- Default: rules 8.4 to 8.8.
pub mod Default
