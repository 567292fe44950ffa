-- Laws about the two pools of a total.
pub mod Together
pub mod ColumnLaws
pub mod ShareLaws
