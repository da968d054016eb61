-- The names that most proofs here use, of the kit, of the crates below and of the definitions, from one place. Nothing is defined here.
pub use Rattle.std.specs.Prelude.{None, Option, Some, is_some}
pub use lib.ListN.{get_or-append as List·getD-append, length-map}
pub use lib.Seq.{drop-append-le, get_or-set_other, get_or-set_same, set_out}
unfoldable pub use Rattle.arithmetic.proofs.Kit.{fits, flat_map, of_bits}
pub use Rattle.arithmetic.proofs.Kit.{Bool, Float, List, List·getD-eq-default, T, [], ◌&&◌, ◌*◌, ◌++◌, ◌+◌, ◌-◌, ◌<◌, ◌∙◌, ◌∷◌, ◌≡◌, ◌≢◌, ◌≤◌, ◌⊎◌, ap, ap₂, arith, binary64, cond, drop, drop_of_length-le, eqb, false, get_or, inl, inr, le-ltb, leb, leb-false, leb-true, length, length-append, length-drop, length-set, length-take-le, lit≤, lt-ltb, ltb, ltb-false, ltb-true, map, rules, not, not-false, of_bits-fits, refl, replicate, set, subst, suc, sym, take, take_all, take-append-drop, true, zero, ℕ, ⊎_elim}
pub use Rattle.refusal.proofs.Rows.{Never, after_check, decided, exactly, never_both, none_after, none_before, none_both, then-accepted, then_append, then_next, then-none, then_same, then_to}
pub use Rattle.refusal.specs.Causes.{NoneHolds}
pub use Rattle.refusal.specs.Outcomes.{Outcome, Row, ◌then◌, ◌⟫◌, accepted, numbers, passed, refused, row, outcome}
pub use Rattle.fields.proofs.Forms.{at_most_lem, size-by, tagged}
pub use Rattle.fields.proofs.Heads.{Split, after_is, at-end, at_field, further, heads-none, heads-step, split, step-found, step-refused}
unfoldable pub use Rattle.fields.specs.Fields.{field, head_rows, next_at}
pub use Rattle.fields.specs.Fields.{data_size, double_of, field_of, heads, is_count_tag, is_tag, length_of, meaning_of, meanings, size_of, tag_of, value_of}
pub use Rattle.fields.specs.declared.fields.Value.{Value}
pub use Rattle.record.specs.Entries.{entry_for, entry_of, no_readings, value_or_zero, with_entry, with_value}
pub use Rattle.record.specs.Readings.{noted, order_rows, read_record, read_rows, readings, rows_of}
pub use Rattle.record.specs.declared.entries.Readings.{Readings}
