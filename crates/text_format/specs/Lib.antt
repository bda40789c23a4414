-- What the entry points answer, with document 01's numbers and values (Answers), and what bars them (Opened).
pub mod Answers
pub mod Opened
