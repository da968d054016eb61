-- What the contracts of `antilog` cite: document 01's log word and antilog, the estimate that the antilog starts from, and the square root.
pub mod Log
pub mod Antilog
pub mod Estimate
pub mod Among
pub mod Sqrt
