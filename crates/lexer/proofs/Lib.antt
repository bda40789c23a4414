-- Laws that the proofs of the functions cite.
pub mod Table
pub mod Laws
pub mod Lines
