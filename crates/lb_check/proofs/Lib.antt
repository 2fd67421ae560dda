pub mod OrderLemmas
pub mod Tell
pub mod NameSets
pub mod NameCounts
pub mod NoFaults
pub mod NamesKept
pub mod CommandLists
pub mod CommandsKept
pub mod FunctionsKept
pub mod RulesKept
pub mod Settled
pub mod Refusals
pub mod CallGraph
mod OneFault
