-- Laws about lines read one by one, and into slots.
pub mod SaidLaws
pub mod SlotLaws
