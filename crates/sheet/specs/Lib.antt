-- What the contracts of `sheet` cite: a text over a page, a row of figures, the sheet, and its laws.
pub mod Over
pub mod Row
pub mod Sheet
pub mod Laws
