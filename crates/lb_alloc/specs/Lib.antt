pub mod Keeping
pub mod Registers
pub mod InternalSteps
pub mod InternalSets
pub mod InternalOwn
