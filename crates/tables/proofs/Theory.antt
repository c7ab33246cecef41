pub mod Change
pub mod Fill
pub mod Records
pub mod Store
