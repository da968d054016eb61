-- The entry of the tables that a root starts from.
pub mod Entry
pub mod Root
