-- Laws about the answers of the paths and what they sold.
pub mod PathRowLaws
pub mod SoldLaws
