-- Laws about claims, each in one word.
pub mod PackedLaws
