pub mod RegisterLemmas
pub mod BooleanLemmas
pub mod PutLemmas
pub mod Follow
pub mod HeldLemmas
pub mod WalkLemmas
pub mod ApartLemmas
pub mod Keep
pub mod SourceFollow
pub mod FlatTerms
pub mod FlatSites
pub mod FlatCommands
pub mod FlatCalls
pub mod FlatForms
pub mod FlatCounts
pub mod FlatLean
pub mod FlatNames
pub mod FlatOrder
pub mod EmittedLemmas
pub mod NumberLemmas
pub mod CountableLemmas
pub mod CallPathLemmas
mod Examples
mod FlatExamples
mod OrderExamples
