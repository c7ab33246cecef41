pub mod Automaton
pub mod Draft
pub mod Finish
pub mod Keeping
pub mod Modes
pub mod Running
pub mod Scan
