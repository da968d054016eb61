-- The laws of the definitions, a file for each idea.
pub mod Kit
pub mod Accepted
pub mod Heights
pub mod Between
pub mod Warmer
pub mod PressuresApart
pub mod Spread
pub mod Demand
pub mod Rejected
pub mod Owned
