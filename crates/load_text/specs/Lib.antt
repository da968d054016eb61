-- What the contracts of `bench_load` cite: the text of the load's records, and how many of them are asked for; and what may be relied on of every record.
pub mod Text
pub mod Asked
pub mod Laws
pub mod SplitMix
pub mod Counts
pub mod CountLaws
pub mod Records
