-- Laws of sound spans and of live values, which the proofs here and the crates above cite.
pub mod Trees
pub mod Sounds
pub mod Entries
pub mod Lives
pub mod Seeks
