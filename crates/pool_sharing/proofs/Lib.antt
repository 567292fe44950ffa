-- Laws about how a pool is shared.
pub mod Totals
pub mod Arrays
pub mod Eligible
pub mod Largest
pub mod HandOut
pub mod SharingLaws
pub mod Pools
pub mod Loops
pub mod Examples
