-- What the contracts of `station` cite: the figures.
pub mod Figures
pub mod Resolved
