-- The laws of the definitions, a file for each idea.
pub mod Overrides
pub mod Served
mod One
