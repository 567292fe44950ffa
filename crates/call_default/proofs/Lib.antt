-- Laws about default: what is known where it is answered, and that its rule is lawful.
pub mod Cleared
pub mod DefaultLaws
