pub mod Tokens
pub mod Scanned
pub mod InternalScanning
