-- Laws of surveys, which the proofs here cite.
pub mod Counts
pub mod Lackings
pub mod Tables
pub mod Complete
