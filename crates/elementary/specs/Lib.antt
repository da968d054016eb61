-- What the contracts of `elementary` cite. Each file from Power to Ln is one paragraph of document 01, "Added: three functions by whole numbers",
-- and takes the number of places as its first argument: 60 in the contracts, and any number from 1 to 60 in the laws.
pub mod Base
pub mod Exponents
pub mod Power
pub mod Exp
pub mod Ln
