pub mod Cases
pub mod Laws
