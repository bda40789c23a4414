-- Laws that the proofs of the readers cite.
pub mod Stores
pub mod Returns
pub mod Steps
