-- How long a report is, its record, and samples.
pub mod Short
pub mod AdviceShort
pub mod Recorded
pub mod Samples
pub mod ColumnLines
pub mod Stated
