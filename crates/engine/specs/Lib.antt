-- The rule of a call, whichever of the eleven it is, and what it leaves: rules 12.1 and 12.2.
pub mod Lent
pub mod Rules
pub mod Step
