-- Laws about the market's rules, which the proofs of this crate and of those above it cite.
pub mod Every
pub mod Filled
pub mod FreshLaws
pub mod KindLaws
pub mod SoundLaws
pub mod Tables
pub mod Tests
