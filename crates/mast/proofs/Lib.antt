-- When each number is answered.
pub mod Kit
pub mod Stated
pub mod Causes
pub mod Order
pub mod Numbers
pub mod Dry
pub mod Records
pub mod Humidity
pub mod Entries
