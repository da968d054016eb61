-- The laws of the definitions: the words of a line one after the other, digits one after the other, and names.
pub mod Found
pub mod Names
pub mod Split
pub mod Passed
pub mod Ends
pub mod Shapes
