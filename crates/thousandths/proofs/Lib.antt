-- The laws of the definitions, a file for each idea.
pub mod Words
pub mod Sizes
pub mod Laws
pub mod Quotients
pub mod Fields
