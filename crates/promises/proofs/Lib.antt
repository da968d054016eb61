-- The proof of the page, and of those of its promises that are cases.
pub mod Computed
pub mod Promises
