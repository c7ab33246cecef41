-- What only the proofs of the code need: nobody has to believe it.
pub mod Automaton
pub mod Modes
pub mod Draft
pub mod Scan
pub mod Keeping
pub mod Finish
