-- Laws about bidders and their charges.
pub mod BillLaws
