-- Laws of nodes and scopes, which the proofs here and the crates above cite.
pub mod Words
pub mod Scopes
pub mod Ranks
pub mod Turns
