-- What is written to the lent buffer.
pub mod Written
