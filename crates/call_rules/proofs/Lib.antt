-- Laws about rules: `Decides`, what a function that knows its verdict has to return and to leave; `Lawful`, what
-- the promise asks of each rule, with `SoundStates` and `Sums` for its proofs; `StepLaws`, what then holds of every call.
pub mod Decides
pub mod SoundStates
pub mod Sums
pub mod Lawful
pub mod StepLaws
