-- Pay: rules 8.1 to 8.3.
pub mod Pay
