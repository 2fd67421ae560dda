pub mod Decoding
pub mod Effects
pub mod Formats
pub mod Listing
pub mod Table
