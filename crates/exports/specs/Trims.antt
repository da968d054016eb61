-- The answer to how close the next trim class is, as four whole numbers, and what it leaves in the lent arrays. Definitions only.
use Rattle.trim.specs.declared.changes.Turn.{Turn}
use Rattle.std.specs.Prelude.{ℕ, List, [], ◌∷◌, ℤ, pos, neg_ℤ, Float, None, Option, Some}
use Rattle.refusal.specs.Outcomes.{Outcome, accepted, refused}
use Rattle.trim.specs.declared.changes.Quantity.{Quantity}
use Rattle.trim.specs.declared.changes.Quantity.TheVariants.{Temperature, MeasuredPressure}
use Rattle.trim.specs.declared.changes.Direction.{Direction}
use Rattle.trim.specs.declared.changes.Direction.TheVariants.{Up, Down}
use Rattle.trim.specs.declared.search.Next.{Next}
use Rattle.trim.specs.Search.{next_trim_class}
use Rattle.exports.specs.Lent.{with_room, handed_out}

-- ---- the answer: the class, the tag of the field changed, the tenths with their sign, and the class that they give;
-- without a change 0, 0 and the class again
abbrev pub quantity_tag : Quantity → ℕ
quantity_tag Temperature = 2
quantity_tag MeasuredPressure = 7

abbrev pub signed_tenths : Direction → ℕ → ℤ
signed_tenths Up k = pos k
signed_tenths Down k = neg_ℤ (pos k)

abbrev pub turn_numbers : ℕ → Option Turn → List ℤ
turn_numbers c (Some t) = pos c ∷ pos (quantity_tag t.change.quantity) ∷ signed_tenths t.change.direction t.change.tenths ∷ pos t.class ∷ []
turn_numbers c None = pos c ∷ pos 0 ∷ pos 0 ∷ pos c ∷ []

abbrev pub trim_numbers : Next → List ℤ
trim_numbers n = turn_numbers n.class n.turn

-- ---- the answer to a record, with two lent arrays
abbrev pub trim_in : List Float → List ℤ → List ℕ → Outcome Next
trim_in lent answer bytes = with_room 2 lent (with_room 4 answer (next_trim_class bytes))

-- what is refused leaves the lent answer
abbrev pub answer_after : List ℤ → Outcome Next → List ℤ
answer_after answer (accepted n) = handed_out (trim_numbers n) answer
answer_after answer (refused number values) = answer
