-- Demand 3, request K8, and what they reject.
pub mod Order
pub mod Warmer
pub mod Rejected
