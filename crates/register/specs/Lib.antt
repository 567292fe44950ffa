-- The register: its words and its entries (rules 3.1 to 3.4 and rule 4.8), and what calls do with the entries.
pub mod Entries
pub mod Words
pub mod Refusals
