-- The record field by field, and a turn of the reading.
pub mod Kit
pub mod Stated
pub mod Walk
pub mod EntryLaws
pub mod ByMeaning
pub mod Turn
pub mod Followed
pub mod FirstBytes
pub mod Following
pub mod Exchange
pub mod Strict
pub mod Numbers
