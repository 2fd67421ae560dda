pub mod Script
pub mod Registers
pub mod Rows
pub mod Steps
pub mod Pins
pub mod Calls
pub mod InternalModes
