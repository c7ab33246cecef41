pub mod Change
pub mod Families
pub mod Ledger
pub mod Runs
pub mod View
