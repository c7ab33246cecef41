pub mod Code
pub mod Grammar
pub mod Meaning
pub mod Output
pub mod Reply
