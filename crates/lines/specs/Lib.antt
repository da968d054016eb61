-- What the contracts of `lines` cite: the answer to a line.
pub mod Answers
pub mod Values
pub mod Texts
pub mod Source
pub mod Stations
pub mod Rules
pub mod Decimal
pub mod Asked
pub mod Written
pub mod Classes
pub mod Votes
pub mod Records
pub mod Items
pub mod Typed
