pub mod Laws
pub mod Ties
