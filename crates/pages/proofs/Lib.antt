-- A text that grows piece by piece, how long its pieces are, a buffer that is filled, and words that are compared.
pub mod Growing
pub mod Putting
pub mod Hexed
pub mod Short
pub mod Filled
pub mod Same
pub mod Sought
