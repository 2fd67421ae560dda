pub mod Crossing
mod ListLemmas
mod StepLemmas
mod PlayLemmas
mod OpeningLemmas
mod ClosingLemmas
mod CallLemmas
