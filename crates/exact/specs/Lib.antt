-- Numbers without rounding, and what it means that a double is near one of them.
pub mod Exact
pub mod Near
pub mod Powers
pub mod FunctionsNear
