pub mod TextLemmas
pub mod WalkNames
pub mod ChosenAccepted
