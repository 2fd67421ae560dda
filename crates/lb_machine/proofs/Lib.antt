pub mod BoardLemmas
pub mod CoreLemmas
pub mod EnabledLemmas
pub mod LogLemmas
pub mod MachineLemmas
pub mod RowLemmas
