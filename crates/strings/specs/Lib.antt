-- What the answers are, beside the definitions of the crate `definitions`.
pub mod Rows
pub mod Values
