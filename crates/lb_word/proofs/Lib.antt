pub mod BoundLemmas
pub mod ByteLemmas
pub mod ResultLemmas
pub mod SignedLemmas
