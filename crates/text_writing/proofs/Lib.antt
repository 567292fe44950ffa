-- Laws about texts put into a buffer, and about lines piece by piece.
pub mod PutLaws
pub mod PieceLaws
