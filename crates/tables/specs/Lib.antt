pub mod Records
pub mod Store
pub mod Change
pub mod Fill
pub mod Code
