-- Laws that the proofs of the functions cite.
pub mod Canon
pub mod OrderLaws
pub mod BodyLaws
pub mod Passes
pub mod Sizes
pub mod Whole
