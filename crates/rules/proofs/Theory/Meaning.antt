pub mod Constants
pub mod Laws
pub mod Limits
pub mod Packing
pub mod Rows
pub mod Variables
pub mod Widths
