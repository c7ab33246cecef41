pub mod Nodes
pub mod Decoding
pub mod Reading
pub mod Packing
pub mod Accepted
pub mod Cases
pub mod Code
