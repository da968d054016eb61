-- What the answers share.
pub mod Buffer
pub mod Sheet
pub mod ShownText
