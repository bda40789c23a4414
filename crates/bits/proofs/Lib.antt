-- Laws of bit fields, which the proofs here and the crates above cite.
pub mod BitLaws
