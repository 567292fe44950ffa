-- What a sheet is, and how its form is tested (rules 14.1 to 14.8).
pub mod Form
pub mod Reading
pub mod Sheet
pub mod Slots
pub mod Words
