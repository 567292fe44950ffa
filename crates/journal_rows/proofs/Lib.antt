-- Laws about rows.
pub mod RowLaws
