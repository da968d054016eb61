-- What the contracts of `park_reply` cite: a number of bytes that a list begins with.
pub mod Counts
