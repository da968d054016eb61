-- Document 01's cases, proved, and what the inverse accepts.
pub mod Cases
pub mod AcceptedAt
