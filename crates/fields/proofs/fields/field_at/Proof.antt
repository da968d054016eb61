-- `fields::fields::field_at` meets its contract: past the record's end a header is cut. Assumes nothing.
use Rattle.fields.proofs.Kit.{refl, ap, ◌∙◌, ◌<◌, ◌≤◌, ◌-◌, arith, rules, lt-ltb, length, drop, length-drop, take_all, field_of}
use Rattle.fields.proofs.FieldChecks.{by-checks}
use Rattle.fields.proofs.fields.field_at.Statement.{statement}
use Rattle.fields.proofs.fields.field_at.Tie as tie

returns : tie.Need-returns-then-bytes-at
returns c =
    let s = c.args.bytes.now in
    let at = c.args.at in
    let short : length (drop at s) < 3 = rw length-drop (omega arith) in
    (by-checks (drop at s) (lt-ltb _ _ short) refl refl refl, refl)

returns_2 : tie.Need-returns
returns_2 c =
    let s = c.args.bytes.now in
    let at = c.args.at in
    let rest : length (drop at s) ≤ length s - at = rw length-drop (omega arith) in
    (c.head_field.ensures ∙ ap field_of (take_all (length s - at) (drop at s) rest), refl)

pub field_at_spec : {M : Type 1} → statement M
field_at_spec = tie.close (tie.spec returns
    (λ c. search rules)
    (λ c. search rules)
    (λ c. search rules)
    (λ c κs. search rules)
    returns_2)
