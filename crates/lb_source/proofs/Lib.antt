pub mod OutcomeLemmas
pub mod Onward
pub mod Bounds
pub mod Later
pub mod MapLemmas
pub mod MemoryLemmas
pub mod ValueLemmas
pub mod RunFacts
pub mod FindFacts
pub mod BlockFacts
pub mod ArmFacts
pub mod EverFacts
pub mod FrameFacts
mod StackLemmas
pub mod ImplementLemmas
