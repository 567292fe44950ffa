-- Retire's rule is lawful.
pub mod RetireLaws
