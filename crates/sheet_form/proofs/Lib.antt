-- The sheets that are read are exactly those that are written.
pub mod BidLineLaws
pub mod CountedLaws
pub mod FormLaws
pub mod LineLaws
pub mod PlaceLaws
pub mod RightLaws
pub mod SectionLaws
pub mod SheetLaws
pub mod Sorts
pub mod TitleLaws
pub mod WordLaws
