pub mod Crews
pub mod Drawn
pub mod InternalCrew
pub mod InternalDraws
pub mod Laws
