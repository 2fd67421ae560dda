pub mod Chosen
pub mod Texts
