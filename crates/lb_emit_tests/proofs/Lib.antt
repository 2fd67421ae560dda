pub mod Bootable
