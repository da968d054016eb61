-- What the contracts of `mast` cite: the judge, and the laws of its answers.
pub mod Judge
pub mod Laws
pub mod Checks
