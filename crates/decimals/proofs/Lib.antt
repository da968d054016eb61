-- The laws of a number's digits, of texts in sixteen places, and of the whole number that a text shows.
pub mod Digits
pub mod Standing
pub mod Places
pub mod Halves
pub mod TooLong
pub mod Samples
pub mod TypedDigits
pub mod Parts
