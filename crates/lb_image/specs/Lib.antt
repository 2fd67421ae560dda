pub mod Images
pub mod Fields
pub mod Refusal
pub mod Laws
pub mod InternalReading
pub mod InternalWriting
