-- The places of the changes, and the first of some that gives another class.
pub mod Kit
pub mod Stated
pub mod Places
pub mod First
pub mod Found
pub mod Answer
pub mod Causes
