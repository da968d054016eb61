-- The names that most proofs here use, of the kit, of the crates below and of the definitions, from one place. Nothing is defined here.
pub use Rattle.std.specs.Prelude.{Err, None, Ok, Option, Result, Some, is_some}
pub use lib.Seq.{drop-append_seam, ext_get_or, get_or-append-add, get_or_at, get_or-set_other, get_or-set_same, get_or-take, sets-eq, take-add, take-append_seam, take-suc}
unfoldable pub use Rattle.arithmetic.proofs.Kit.{flat_map, is_nan, of_bits}
pub use Rattle.arithmetic.proofs.Kit.{Bool, Float, List, List·getD-eq-default, SFits, T, [], ◌%◌, ◌&&◌, ◌*◌, ◌++◌, ◌+◌, ◌-◌, ◌/◌, ◌<◌, ◌^◌, ◌∙◌, ◌∷◌, ◌≡◌, ◌≤◌, ◌⊎◌, add-one, add-zero, ap, append_assoc, append-nil, ap₂, arith, binary64, cond, digits_div, digits_lt, div-div-eq-div-mul, drop, drop-cons, drop-drop, drop_of_length-le, eq-eqb, eqb, eqb-false, eqb-true, false, fin, finite, get_or, get_or-drop, inf, inl, inr, le-ltb, leb, leb-false, leb-true, length, length-append, length-drop, length-set, length-take, length-take-le, lit<, lt-ltb, ltb, ltb-false, ltb-true, map, mod-eq_of_lt, mul-suc, nan, rules, not, not-false, not-true, of_bits-fits, of_bits-to_bits, one-le-pow, pow-add, pow-suc, pow-succ', refl, set, sets, subst, suc, sym, take, take_all, take-append-drop, to_z-of_z, true, true≢false, w32, zero, zero-add, ℕ, ℤ, ⊎_elim}
pub use Rattle.refusal.proofs.Rows.{Never, exactly, exactly-by, never_both, never-refused, none_after, none_before, none_both, numbers-append, then-accepted, then_append, then-none, then-rows}
pub use Rattle.refusal.specs.Causes.{ExactlyCaused, NoneHolds}
pub use Rattle.refusal.specs.Outcomes.{Outcome, Row, ◌then◌, ◌⟫◌, accepted, numbers, refusal, refused, outcome}
pub use Rattle.refusal.specs.declared.Refusal.{Refusal}
pub use Rattle.refusal.specs.declared.Refusal.TheVariants.{NoCount}
pub use Rattle.fields.proofs.Forms.{Tagged, at_most_lem, from_first, size-by, tag-form, tag-known, tag-meaning, tagged}
pub use Rattle.fields.proofs.Heads.{Split, after_is, at-end, at_field, further, heads-step, next-is, split, step-found, step-refused}
unfoldable pub use Rattle.fields.specs.Bytes.{number_at}
pub use Rattle.fields.specs.Bytes.{double_at}
unfoldable pub use Rattle.fields.specs.Fields.{field, head_rows, heads_from}
pub use Rattle.fields.specs.Fields.{data_size, double_of, heads, is_count, is_count_tag, is_tag, length_of, meaning_of, meanings, size_of, step_at, tag_in, tag_of, value_of}
pub use Rattle.fields.specs.declared.fields.Field.{Field}
pub use Rattle.fields.specs.declared.fields.Value.{Value}
pub use Rattle.fields.specs.declared.fields.Value.TheVariants.{Count, Double}
pub use Rattle.record.proofs.EntryLaws.{head-whole, in_order, in_range_lem, is-new, is_whole}
pub use Rattle.record.proofs.Walk.{any_last, field_rows, no_bytes, read, read_step}
pub use Rattle.record.specs.Entries.{entry_for, entry_of, no_readings, stored_of, with_value}
pub use Rattle.record.specs.Readings.{noted, order_rows, read_record, read_rows, readings, rows_of}
pub use Rattle.record.specs.declared.entries.Readings.{Readings}
unfoldable pub use Rattle.writer.specs.Conversion.{converted}
pub use Rattle.writer.specs.Conversion.{AllIn, count_rows, counted_field, field_as, field_in, fields_in, fields_of, has_no_count, length_converted, record_in, size_as, Turned, turned, turned_of, written_in}
pub use Rattle.writer.specs.Laws.{AreBytes, AreHeld, IsHeld}
unfoldable pub use Rattle.writer.specs.Records.{bytes, field_with, fields_from}
pub use Rattle.writer.specs.Records.{data_of, field_for, has_form, record_of, stored_field}
pub use Rattle.writer.specs.Written.{length_written, overwritten, room_rows}
