-- What may be relied on of the judge beyond its contracts, document 01. Definitions only.
use Rattle.std.specs.Prelude.{ℕ, cond, List, [], ◌∷◌, eqb}
use Rattle.refusal.specs.Outcomes.{Row}

-- document 01's "14 (not with 06)": with 06 and no 05 the answer is that of the rows without 14, so records with 06 alone or with 02 keep their figures
abbrev pub without : ℕ → List Row → List Row
without n [] = []
without n (r ∷ rows) = cond (eqb r.number n) (without n rows) (r ∷ without n rows)
