-- What the contracts of `refusal` and of every crate that refuses cite: the causes of document 01's table, and outcomes.
pub mod Refusals
pub mod Outcomes
pub mod Causes
