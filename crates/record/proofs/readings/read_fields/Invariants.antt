-- The loop's invariant: what is left of the record, read from the readings and the last tag so far, gives the whole record's outcome.
use Rattle.record.proofs.Kit.{◌≡◌, ◌≤◌, ◌-◌, Bool, List, Option, Value, ℕ, length, drop, Outcome, Readings, read_record}
use Rattle.record.proofs.Walk.{read}
use Rattle.record.proofs.readings.read_fields.Given as goal

-- what is left from a position on
abbrev pub rest : Bool → List ℕ → ℕ → List (Option Value) → ℕ → Outcome Readings
rest strict s at slots last = read strict (record { slots = slots }) last (drop at s)

abbrev pub invariant-loop-at : goal.invariant-loop-at
invariant-loop-at l = record { within : l.at ≤ length l.bytes; left : read_record l.strict l.bytes ≡ rest l.strict l.bytes l.at l.slots l.last }

abbrev pub decreases-loop-at : goal.decreases-loop-at
decreases-loop-at l = length l.bytes - l.at
