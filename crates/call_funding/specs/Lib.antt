-- Deposit and withdraw, rules 5.1 to 5.3, and deposits one after another, rule 14.6.
pub mod Funding
pub mod Deposit
pub mod Deposits
pub mod Withdraw
