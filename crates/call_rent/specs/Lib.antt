-- Rent: rule 10.1.
pub mod Rent
