-- The starred cases, computed.
pub mod TheCases
