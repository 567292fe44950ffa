-- The output of a sheet, by its form, and of a well-formed sheet, call by call.
pub mod OutputLaws
pub mod RunLaws
pub mod SheetRun
