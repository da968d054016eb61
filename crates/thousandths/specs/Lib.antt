-- What the contracts of `thousandths` cite: counts of thousandths, their words and their doubles.
pub mod Thousandths
