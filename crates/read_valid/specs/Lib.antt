-- What is read is valid, where a refusal points, and that what refuses has a name, in words and as statements.
pub mod ReadValid
pub mod Told
pub mod Named
