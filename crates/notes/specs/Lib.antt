-- What the contract of `put_notes` cites: the rows of the notes, each a test and a line.
pub mod Given
pub mod Words
pub mod Used
pub mod Pressures
pub mod Ranges
pub mod Doubts
pub mod Notes
pub mod Laws
