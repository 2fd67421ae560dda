pub mod Cells
pub mod Fetching
pub mod InternalOutcomes
pub mod MemoryMap
pub mod Outcomes
pub mod Ram
pub mod Registers
