pub mod InternalSteps
pub mod Laws
pub mod Potential
pub mod Rows
pub mod Schedules
pub mod Scoreboard
pub mod Stands
pub mod State
