-- What the vote of three masts leaves in a lent number of a mast. Definitions only.
use Rattle.std.specs.Prelude.{ℕ, cond, List, ltb, length, Float}
use Rattle.vote.specs.Vote.{VoteOutcome}

-- the mast whose record is refused, 1 to 3, and 0 where there is none; an array with fewer places leaves the number as it was
abbrev pub mast_in : ℕ → List Float → ℕ → VoteOutcome → ℕ
mast_in most lent before v = cond (ltb (length lent) most) before v.mast
