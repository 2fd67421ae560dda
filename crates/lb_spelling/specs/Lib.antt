pub mod Tokens
pub mod Grammar
pub mod Places
pub mod InternalMachine
pub mod InternalParsing
pub mod Laws
