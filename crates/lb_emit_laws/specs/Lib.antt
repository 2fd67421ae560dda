pub mod Instructions
pub mod Frames
pub mod Code
pub mod Correct
pub mod Laws
