-- What holds of the load: its counts, its records and their text.
pub mod Kit
pub mod Order
pub mod Slots
pub mod Bytes
pub mod Passes
pub mod Every
pub mod Room
pub mod Lent
pub mod States
pub mod Outputs
pub mod Stepping
pub mod Ranges
pub mod Stated
