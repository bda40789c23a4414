-- Laws that the proofs of the functions cite.
pub mod Decoding
pub mod Escaping
pub mod Letters
pub mod Pieces
