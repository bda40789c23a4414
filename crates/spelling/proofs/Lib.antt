-- Laws of texts in the lent buffer, which the proofs here and the crates above cite.
pub mod Texts
pub mod ValueLaws
