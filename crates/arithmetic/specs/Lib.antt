-- What contracts say of numbers: whole numbers and words with their places, the nearest double, a double taken apart, the double of a decimal, and the bytes of a text.
pub mod Places
pub mod Whole
pub mod Nearest
pub mod Parts
pub mod Decimals
pub mod Operators
pub mod Doubles
pub mod Middle
pub mod Ascii
pub mod Fractions
pub mod Value
pub mod Normalised
