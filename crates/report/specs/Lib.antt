-- What the contracts of `report` cite: the report of readings and of a record.
pub mod Report
pub mod Fault
pub mod Advice
pub mod AirLines
pub mod TrimLines
pub mod Columns
