pub mod Packed
pub mod Code
