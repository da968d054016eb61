-- What the contracts of `pages` cite: characters, and a text on a page.
pub mod Characters
pub mod Pages
pub mod Scan
