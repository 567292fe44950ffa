-- A number of a list, as it is found at a place.
pub mod Found
