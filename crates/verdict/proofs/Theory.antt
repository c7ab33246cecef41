pub mod Bits
pub mod Code
pub mod Form
pub mod Verdict
