-- What the contracts of `trim` cite: the 800 changes in their order, and the search for the smallest; and what may be relied on besides.
pub mod InOrder
pub mod Search
pub mod Laws
pub mod Classes
pub mod Changes
