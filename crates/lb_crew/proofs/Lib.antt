mod Crossing
mod CrewLemmas
mod DrawLemmas
mod EndLemmas
mod KindLemmas
mod ListLemmas
pub mod SeedLemmas
