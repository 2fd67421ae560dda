pub mod Rest
pub mod EntryLemmas
pub mod CallLemmas
pub mod Sums
pub mod Pieces
pub mod OrderLemmas
pub mod FunctionLemmas
