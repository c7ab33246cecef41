pub mod Grammar
pub mod Meaning
pub mod Reply
pub mod Output
pub mod Code
