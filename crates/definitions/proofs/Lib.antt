-- The examples of document 01, computed, and the laws of the definitions that the crates above cite.
pub mod Cases
pub mod Examples
pub mod Numbers
