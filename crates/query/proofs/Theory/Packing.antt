pub mod Bytes
pub mod Fields
pub mod Laws
pub mod Numbering
pub mod Trees
pub mod Widths
