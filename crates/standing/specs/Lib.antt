pub mod Families
pub mod View
pub mod Checks
pub mod Change
pub mod Ledger
pub mod Code
pub mod Runs
