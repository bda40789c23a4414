-- What reading a whole text answers.
pub mod Whole
