-- Document 01 as definitions, in its order. Bytes and words are lists of numbers; a test is a Bool.
-- A letter after a rule says where it comes from: R the Rust, T the public Text Format Language Specification, H this house.
pub mod Basics
pub mod Refusals
pub mod Refused
pub mod Bits
pub mod Image
pub mod Extending
pub mod Scope
pub mod Utf8
pub mod Nodes
pub mod Validity
pub mod Live
pub mod Classes
pub mod Integers
pub mod Places
pub mod Tokens
pub mod Strings
pub mod Calls
pub mod Loop
pub mod Reading
pub mod Print
pub mod Required
pub mod Access
pub mod Names
