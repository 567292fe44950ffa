-- Numbers as text (rule 14.2), and text put into a list.
pub mod Decimal
pub mod Put
