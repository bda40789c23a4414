-- What a survey of a table tells.
pub mod Survey
