-- What the contracts of `park_text` cite: what the program prints for its words.
pub mod ParkText
pub mod Units
pub mod Word
pub mod Words
pub mod Understood
pub mod Laws
pub mod ParkLines
