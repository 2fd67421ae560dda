pub mod InternalReading
pub mod InternalFindings
pub mod Refusal
