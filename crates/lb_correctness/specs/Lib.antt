pub mod Images
pub mod Machines
pub mod Laws
