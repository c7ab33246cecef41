pub mod Reports
pub mod Sources
pub mod Variables
