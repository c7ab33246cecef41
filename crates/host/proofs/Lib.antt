pub mod Theory
pub mod Writing
