pub mod Digits
pub mod First
pub mod Laws
pub mod Output
