-- What a round leaves of paths and stage, rule 7.15, and its answers for paths, rule 7.18.
pub mod PathSales
pub mod Stages
pub mod PathRows
