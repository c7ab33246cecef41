pub mod Iff
pub mod Laws
