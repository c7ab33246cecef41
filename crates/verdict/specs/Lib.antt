pub mod Bits
pub mod Form
pub mod Verdict
pub mod Code
