-- `record::entries::stored_of` meets its contract. Assumes nothing.
use Rattle.record.proofs.Kit.{◌≡◌, sym, ◌≤◌, arith, rules, length, List·getD-eq-default, None, meanings}
use Rattle.record.proofs.entries.stored_of.Statement.{statement}
use Rattle.record.proofs.entries.stored_of.Tie as tie

returns : tie.Need-returns-then-meaning-ge-MEANINGS
returns c =
    let a = c.args in
    let all : length a.readings.slots ≡ meanings = c.well_formed.0.1.1.0.1.0.1 in
    let past : length a.readings.slots ≤ a.meaning = omega arith in
    sym ((List·getD-eq-default a.readings.slots None past))

pub stored_of_spec : {M : Type 1} → statement M
stored_of_spec = tie.close (tie.spec returns
    (λ c. search rules)
    (λ c. search rules)
    (λ c. search rules))
