-- Disburse and recover: rules 11.1, 11.2, 11.7 and 11.8.
pub mod Disbursement
