-- What the readers presume and answer.
pub mod Answers
