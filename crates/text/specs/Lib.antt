-- What the contracts of `text` cite: texts, and what the program is asked for; and document 01's samples.
pub mod Text
pub mod Asked
pub mod Samples
pub mod Lines
