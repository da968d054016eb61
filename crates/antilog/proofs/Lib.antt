-- The laws of the definitions, a file for each idea.
pub mod Range
pub mod Monotone
pub mod Distance
pub mod HowNearStated
pub mod HowNear
pub mod LogDigits
pub mod Ordered
pub mod OneFraction
mod LaterRoots
pub mod Window
mod Tested
mod Nearly
mod Entries
mod Excluded
pub mod Near
pub mod Bracket
pub mod NearestWhole
pub mod RootDigits
pub mod NearestRoot
