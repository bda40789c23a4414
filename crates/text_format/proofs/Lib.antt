-- Laws that the entry points' proofs cite.
pub mod Ends
pub mod Opened
pub mod Tables
pub mod Prints
pub mod Once
