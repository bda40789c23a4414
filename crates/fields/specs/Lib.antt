-- What is known of a field that is printed.
pub mod Fields
