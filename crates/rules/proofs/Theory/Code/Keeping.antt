pub mod Columns
pub mod Complete
pub mod Laws
pub mod Nodes
pub mod Steps
pub mod Terms
