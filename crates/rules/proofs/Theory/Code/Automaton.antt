pub mod Completion
pub mod Laws
pub mod Reading
pub mod Spelling
