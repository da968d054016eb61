-- What the contracts of `questions` cite: input as lines, a line as words, digits, the forms of arguments, and what they say.
pub mod Lines
pub mod Words
pub mod Digits
pub mod Forms
pub mod Arguments
