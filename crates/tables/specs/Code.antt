-- What only the proofs of the code need: nobody has to believe it.
pub mod Store
pub mod Layout
pub mod Change
pub mod Fill
