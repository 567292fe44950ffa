-- Laws about disburse and recover: the lists that are copied, what is known where they are answered, and that their rule is lawful.
pub mod Accounts
pub mod Cleared
pub mod SettleLaws
