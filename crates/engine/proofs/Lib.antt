-- The rule of each call is lawful.
pub mod Laws
