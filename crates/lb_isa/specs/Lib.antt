pub mod InternalExecution
pub mod Laws
pub mod Moves
pub mod Runs
pub mod State
pub mod InternalSteps
