-- Laws of the schema image's definitions, which the proofs here and the crates above cite.
pub mod Room
pub mod Accepted
pub mod Search
