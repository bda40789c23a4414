-- The words of the contracts of all that looks at a table.
pub mod Span
pub mod Walk
