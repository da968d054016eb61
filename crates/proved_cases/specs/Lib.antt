-- Document 01's cases.
pub mod Cases
