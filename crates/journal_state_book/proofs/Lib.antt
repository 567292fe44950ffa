-- Laws about what a journal prints of the state.
pub mod StateLaws
