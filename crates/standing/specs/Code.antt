-- What only the proofs of the code need: nobody has to believe it.
pub mod View
pub mod Change
