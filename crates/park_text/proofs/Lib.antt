-- What is printed for words, and how long it is.
pub mod Short
pub mod Numerators
pub mod Typed
pub mod Tables
pub mod OneWord
pub mod Split
pub mod Numbers
pub mod Kept
pub mod Noted
pub mod Seven
pub mod Tied
pub mod LinesShort
pub mod Stated
