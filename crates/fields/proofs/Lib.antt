-- Laws that the proofs here and the crates above cite.
pub mod FieldLaws
