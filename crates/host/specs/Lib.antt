pub mod Entry
pub mod Code
