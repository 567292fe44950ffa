-- Laws about the tables of a round's awards.
pub mod AwardLaws
pub mod TableLaws
