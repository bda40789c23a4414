-- Laws that the proofs of the readers cite.
pub mod Wants
pub mod Joins
