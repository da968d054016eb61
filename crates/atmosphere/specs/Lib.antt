-- What the contracts of `atmosphere` cite, from the public documents in the order of rounding of src/atmosphere.rs.
pub mod Layers
pub mod Station
pub mod Altitudes
pub mod Plausibility
