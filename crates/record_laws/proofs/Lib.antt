-- The proofs of the promises.
pub mod Kit
pub mod Stated
pub mod Numbers
pub mod Strict
pub mod Converted
pub mod Pressures
pub mod Moisture
pub mod Named
