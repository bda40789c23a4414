-- The words of the crate's contracts.
pub mod Printable
pub mod Printed
pub mod Order
pub mod Bodies
