-- Laws about the count of winners and about the entries of the bids that won.
pub mod WinnerLaws
pub mod EntryLaws
