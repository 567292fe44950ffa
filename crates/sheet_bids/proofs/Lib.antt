-- Laws about the bid sections of a sheet, and their words.
pub mod SectionPlaces
pub mod WordsPut
