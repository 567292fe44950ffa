-- The pieces of an award sheet, how long it can be, and what two texts written one after the other leave on a writer.
pub mod AwardLength
pub mod Pieces
pub mod WriterLaws
