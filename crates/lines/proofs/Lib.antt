pub mod Theory
pub mod Printing
