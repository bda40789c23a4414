-- What the scanner's answers are, beside the definitions of the crate `definitions`.
pub mod Steps
