-- What the contracts of `record` cite: readings by meaning, and those that the fields of a record give.
pub mod Readings
pub mod Entries
