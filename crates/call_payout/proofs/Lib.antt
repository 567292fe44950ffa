-- Laws about payout: what is known where it is answered, what entries earn, and that its rule is lawful.
pub mod Cleared
pub mod EarningLaws
pub mod RateLaws
pub mod PayoutLaws
