-- Document 01's samples, and how long a text is.
pub mod Samples
pub mod Short
pub mod Stated
