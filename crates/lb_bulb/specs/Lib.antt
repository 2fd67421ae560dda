pub mod Supplied
pub mod Laws
pub mod InternalWords
pub mod InternalParts
pub mod Source
