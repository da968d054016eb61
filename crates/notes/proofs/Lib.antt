-- How one note follows another, what is absent, how long the notes are, and that a note is printed exactly if its row holds.
pub mod Printed
pub mod Absent
pub mod Short
pub mod Exactly
