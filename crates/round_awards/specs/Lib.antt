-- The awards of a round by bid and by path: rules 7.9 and 7.10.
pub mod Tables
