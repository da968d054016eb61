-- The vote on fields, and of masts.
pub mod Kit
pub mod Stated
pub mod ByMeaning
pub mod Readings
pub mod Laws
pub mod Causes
