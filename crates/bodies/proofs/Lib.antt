-- Laws that the proofs of the cycle cite.
pub mod Nested
pub mod Turns
pub mod Origin
