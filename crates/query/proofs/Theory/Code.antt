pub mod Fields
pub mod Free
pub mod Writing
