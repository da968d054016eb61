-- What the contracts of `air` cite, in the order of rounding of src/atmosphere.rs.
pub mod Moist
pub mod Station
pub mod Matched
pub mod Figures
