-- What the contracts of `roots` cite: what K13 asks of two roots.
pub mod Quick
pub mod Root
pub mod Tables
