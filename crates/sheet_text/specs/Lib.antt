-- What the contracts of `sheet_text` cite: the rows of a sheet, its lines, and the page.
pub mod Rows
pub mod Lines
pub mod SheetText
