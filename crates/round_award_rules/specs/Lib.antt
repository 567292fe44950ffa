-- The awards of a round, rules 7.8 to 7.11, and the rival awards that they are held against, rules 12.5 and 12.6.
pub mod Awards
pub mod Rivals
