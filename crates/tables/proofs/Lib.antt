pub mod Theory
pub mod Laws
pub mod Runs
pub mod Derived
