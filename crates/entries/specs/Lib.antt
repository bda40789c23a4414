-- What is noted of an entry, and what its defaults are.
pub mod Noted
