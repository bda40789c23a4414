-- Laws of good spans and valid tables, which the proofs here and the crates above cite.
pub mod Checks
pub mod Spans
pub mod Root
pub mod Values
