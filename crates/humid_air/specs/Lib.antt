-- What the contracts of `humid_air` cite, from the public documents in the order of rounding of src/atmosphere.rs.
pub mod Humidity
pub mod Sound
pub mod MoistAir
pub mod Saturation
