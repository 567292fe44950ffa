-- How a claim is written in a word of the scratch of rule 7.19.
pub mod Packed
