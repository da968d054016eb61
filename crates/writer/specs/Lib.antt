-- What the contracts of `writer` cite: the bytes of a record, and bytes written into a lent buffer; and the laws of writing and reading.
pub mod Records
pub mod Written
pub mod Laws
pub mod Conversion
