-- What the contracts of `reply` cite: a number of bytes that a list begins with.
pub mod Counts
