-- A text over a page, a figure in its column, the outcomes of rows, the laws of a good sheet and a refused one, when each number is answered, and a row as a
-- record's figures.
pub mod Kit
pub mod OnAPage
pub mod Cells
pub mod Outcomes
pub mod GoodSheet
pub mod RefusedSheet
pub mod Causes
pub mod OfRecord
pub mod Stated
