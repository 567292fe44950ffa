-- Open, and the paths that it makes: rules 6.1 to 6.6.
pub mod Open
pub mod OpenedPaths
