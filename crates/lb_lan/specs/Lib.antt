pub mod Queue
pub mod Registers
pub mod Frames
pub mod Transaction
pub mod Phases
pub mod Calls
