pub mod Laws
pub mod Result
