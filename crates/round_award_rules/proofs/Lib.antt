-- Laws about awards.
pub mod Claims
pub mod OrderLaws
pub mod LeftLaws
pub mod WalkLaws
pub mod ValueLaws
pub mod PriceLaws
pub mod BidClaims
pub mod RoundClaims
pub mod FillLaws
pub mod RoundLaws
pub mod Filling
pub mod BestAward
pub mod WalkWithin
pub mod MostWithin
pub mod ValueWithin
