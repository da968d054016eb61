-- A field by its form and its checks, and the fields of a record.
pub mod Kit
pub mod Forms
pub mod FieldChecks
pub mod Heads
