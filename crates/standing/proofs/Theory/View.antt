pub mod Difference
pub mod Laws
pub mod Layout
