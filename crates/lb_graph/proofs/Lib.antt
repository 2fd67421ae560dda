pub mod BestLemmas
pub mod PathLemmas
pub mod SearchLemmas
