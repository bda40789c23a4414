-- Demand 3, in words and as a statement.
pub mod Demand
