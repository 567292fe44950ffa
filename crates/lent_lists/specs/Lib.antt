-- The list that is lent for the amounts of the participants: rule 12.10.
pub mod Amounts
