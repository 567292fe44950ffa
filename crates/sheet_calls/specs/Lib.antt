-- The calls before the first round (rules 14.6 and 14.7).
pub mod CallSlots
pub mod Calls
