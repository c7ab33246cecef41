pub mod Theory
pub mod Carrying
pub mod Comparing
pub mod Walking
pub mod Reading
pub mod Maintaining
pub mod Changing
