-- What the contracts cite besides the definitions of the crates below.
pub mod Words
pub mod Readings
pub mod Records
pub mod Reads
pub mod Votes
pub mod Trims
pub mod Sheets
pub mod Texts
pub mod Lent
pub mod Laws
