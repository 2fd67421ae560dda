pub mod InternalSteps
pub mod Laws
pub mod Logs
pub mod Machines
pub mod Refusals
pub mod Replays
pub mod Rows
pub mod State
