-- Laws about the megawatts outstanding.
pub mod OutstandingLaws
