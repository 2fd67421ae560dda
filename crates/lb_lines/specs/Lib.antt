pub mod Digits
pub mod Form
pub mod Forms
pub mod InternalReading
pub mod Laws
pub mod Lines
pub mod Log
