pub mod Doubling
