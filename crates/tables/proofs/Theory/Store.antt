pub mod Laws
pub mod Places
pub mod Room
