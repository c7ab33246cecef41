pub mod Accepted
pub mod Cases
pub mod Code
pub mod Decoding
pub mod Nodes
pub mod Packing
pub mod Reading
