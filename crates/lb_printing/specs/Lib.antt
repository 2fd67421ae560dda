pub mod Printed
pub mod InternalPrinting
