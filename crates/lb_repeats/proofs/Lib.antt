pub mod LogText
pub mod Places
pub mod Drawn
pub mod Told
pub mod Shown
pub mod Calls
