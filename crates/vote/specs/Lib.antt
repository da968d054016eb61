-- What the contracts of `vote` cite: the vote of three masts, and its laws.
pub mod Vote
pub mod Laws
pub mod Fields
