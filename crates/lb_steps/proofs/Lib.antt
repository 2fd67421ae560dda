pub mod RunLemmas
pub mod GrowthLemmas
pub mod MoveLemmas
pub mod Behavior
pub mod Simulation
