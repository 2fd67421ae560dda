pub mod Blocks
pub mod Calls
pub mod Functions
pub mod Lists
pub mod Signs
pub mod Steps
pub mod Tokens
