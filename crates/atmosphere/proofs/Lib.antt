-- The laws of the definitions, a file for each idea.
pub mod FirstLayer
pub mod LayerNumber
pub mod HeightFrom
pub mod Chained
pub mod AltitudeOrder
