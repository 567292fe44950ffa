-- Laws about writing a round.
pub mod LineLaws
pub mod WalkLaws
