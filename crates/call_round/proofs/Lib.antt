-- Laws about a round: what is known where it is answered, what it works out and within which bounds, and that its rule is lawful.
pub mod ChargeLimits
pub mod Cleared
pub mod ReadyLaws
pub mod RoundBidders
pub mod RoundBounds
pub mod RoundEntries
pub mod RoundLaws
pub mod RoundLawful
pub mod RoundPaths
