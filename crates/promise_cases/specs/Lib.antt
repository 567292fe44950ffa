-- The starred cases, as rows about the rules.
pub mod SheetText
pub mod Cases
