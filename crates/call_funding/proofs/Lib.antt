-- Laws about deposit and withdraw: what is known where they are answered, that their rules are lawful, and deposits one after another.
pub mod Cleared
pub mod FundingLaws
pub mod DepositLaws
pub mod KeptDeposits
