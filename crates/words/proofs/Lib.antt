-- Laws that the proofs of the functions cite, and examples.
pub mod Words
pub mod Lines
pub mod Examples
