pub mod InternalSpill
pub mod Placing
