-- Laws about open: what is known where it is answered, the paths that it makes, and that its rule is lawful.
pub mod Cleared
pub mod PathLaws
pub mod OpenLaws
