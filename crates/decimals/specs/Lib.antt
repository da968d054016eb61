-- What the contracts of `decimals` cite: the decimal text of a double, how it stands in sixteen places and on a page, and a decimal as it is typed.
pub mod Decimal
pub mod Places
pub mod Shown
pub mod Typed
