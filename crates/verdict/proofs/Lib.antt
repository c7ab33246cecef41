pub mod Fronts
pub mod Sets
pub mod Theory
pub mod Writing
