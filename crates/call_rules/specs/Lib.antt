-- How a call's rule is stated, and what any rule gives (rules 13.100 and 13.101): over the words of the register for the engine, over entries for
-- the promise.
pub mod Money
pub mod Rule
pub mod Rules
pub mod Steps
pub mod State
