-- Bytes written at the start of a lent buffer. Definitions only.
use Rattle.std.specs.Prelude.{ℕ, cond, List, [], ◌∷◌, ◌++◌, ltb, length, drop}
use Rattle.refusal.specs.Outcomes.{Outcome, accepted, Row, row, ◌then◌}

-- 18: the buffer is shorter than s
abbrev pub room_rows : List ℕ → List ℕ → List Row
room_rows s buffer = row (ltb (length buffer) (length s)) 18 [] ∷ []

-- how many bytes s has
abbrev pub length_written : List ℕ → List ℕ → Outcome ℕ
length_written s buffer = room_rows s buffer then accepted (length s)

-- s, then what was there; all that was there, where the buffer is shorter
abbrev pub overwritten : List ℕ → List ℕ → List ℕ
overwritten s buffer = cond (ltb (length buffer) (length s)) buffer (s ++ drop (length s) buffer)
