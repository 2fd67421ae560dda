pub mod Added
pub mod Registers
