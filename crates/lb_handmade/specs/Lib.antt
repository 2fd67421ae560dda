pub mod Packed
pub mod Faults
pub mod InternalSize
