-- What the proofs of the functions use.
mod Each
pub mod ReadWritten
mod Room
mod SheetValues
