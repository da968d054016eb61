-- What the proofs of `wide` use: lemmas on plain numbers.
pub mod Shifts
