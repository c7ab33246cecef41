pub mod Theory
pub mod Taking
