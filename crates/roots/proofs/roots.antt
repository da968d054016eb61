-- What the proofs of `roots` use: lemmas on plain numbers.
pub mod Newton
pub mod Halves
pub mod Places
