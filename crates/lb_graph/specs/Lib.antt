pub mod InternalBest
pub mod Paths
pub mod InternalSearch
