-- `record::entries::with_value` meets its contract. Assumes nothing.
use Rattle.record.proofs.Kit.{Value, ◌≡◌, sym, ap, List, ◌≤◌, arith, rules, length, set_out, Option, Some, Readings, meanings}
use Rattle.record.proofs.entries.with_value.Statement.{statement}
use Rattle.record.proofs.entries.with_value.Tie as tie

from : List (Option Value) → Readings
from l = record { slots = l }

returns : tie.Need-returns-then-meaning-ge-MEANINGS
unfolding from
returns c =
    let a = c.args in
    let all : length a.readings.slots ≡ meanings = c.well_formed.0.1.1.0.1.0.1 in
    let past : length a.readings.slots ≤ a.meaning = omega arith in
    sym (ap from (set_out a.readings.slots a.meaning (Some a.value) past))

pub with_value_spec : {M : Type 1} → statement M
with_value_spec = tie.close (tie.spec returns
    (λ c. search rules)
    (λ c. search rules)
    (λ c. search rules))
