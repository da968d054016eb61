-- What the contracts of `fields` cite: bytes, a field at the head of bytes, and the tags of the fields.
pub mod Bytes
pub mod Fields
pub mod Tags
