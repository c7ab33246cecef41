pub mod Laws
pub mod Quantifiers
pub mod Testing
