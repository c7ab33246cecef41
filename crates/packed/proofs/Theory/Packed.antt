pub mod Laws
pub mod Places
pub mod Right
pub mod Told
