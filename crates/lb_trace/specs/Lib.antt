pub mod Frame
pub mod Hex
pub mod Prefix
pub mod Trace
pub mod TraceText
