-- What only the proofs of the code need: nobody has to believe it.
pub mod Fields
pub mod Free
pub mod Judging
pub mod Writing
