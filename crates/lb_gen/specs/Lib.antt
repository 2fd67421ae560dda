pub mod Made
pub mod Laws
pub mod InternalDraws
pub mod InternalParts
