pub mod Calls
pub mod Laws
pub mod Places
pub mod Stores
pub mod Turn
