-- Laws about rent: what is known where it is answered, and that its rule is lawful.
pub mod Cleared
pub mod RentLaws
