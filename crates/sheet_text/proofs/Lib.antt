-- How long a sheet is.
pub mod Short
