-- From a sheet to its output (rules 14.6 to 14.12).
pub mod Output
