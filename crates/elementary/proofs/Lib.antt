-- The laws of the definitions, a file for each idea.
pub mod Exponents
pub mod PowerCases
mod NearWords
pub mod Rises
pub mod ExpRises
pub mod PowersApart
