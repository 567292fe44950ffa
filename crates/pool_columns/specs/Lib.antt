-- The two pools of a total, and the columns by which they are shared: rules 11.3, 11.4, 11.7 and 13.33.
pub mod Pools
