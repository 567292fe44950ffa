-- The lines of a sheet, one by one (rules 14.2 to 14.5).
pub mod Lines
