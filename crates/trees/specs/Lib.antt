-- A tree of values laid down as nodes and pool bytes.
pub mod Laying
