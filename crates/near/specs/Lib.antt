-- The documents' formulas in exact numbers, of readings in their ranges, and what is printed of a figure.
pub mod Density
pub mod Saturation
pub mod Sound
pub mod Near
pub mod Paper
pub mod Troposphere
pub mod Qnh
pub mod PressureAltitude
pub mod DensityAltitude
