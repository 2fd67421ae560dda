pub mod TreeFacts
pub mod BlockLemmas
pub mod DistinctLemmas
pub mod SetLemmas
pub mod OpenLemmas
pub mod OpenTermLemmas
pub mod OpenCommandLemmas
pub mod StackLemmas
