mod NameLemmas
mod Members
mod CallLemmas
mod DrawLemmas
pub mod RulesKept
mod WholeLemmas
