-- How long an answer is, one line more that is answered, and a byte that is not moved yet.
pub mod FewValues
pub mod Short
pub mod OneMore
pub mod Stated
pub mod Moved
