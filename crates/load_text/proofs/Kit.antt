-- The names that most proofs here use, of the kit, of the crates below and of the definitions, from one place. Nothing is defined here.
unfoldable pub use Rattle.arithmetic.proofs.Kit.{fits, le, lt, of_bits, round}
pub use Rattle.arithmetic.proofs.Kit.{Bool, Float, List, SFits, T, [], ◌%◌, ◌*◌, ◌++◌, ◌+◌, ◌+ℤ◌, ◌-◌, ◌/◌, ◌<◌, ◌^◌, ◌||◌, ◌∙◌, ◌∷◌, ◌≡◌, ◌≤◌, ◌≤ℤ◌, ◌⊎◌, add-mul, add-one, ap, append_assoc, append-nil, ap₂, arith, binary64, cond, div-add-mod', drop, eq-eqb, eqb, false, fin, finite, get_or, inf, inl, inr, le-leb, le-ltb, le_trans, leb→le, length, length-append, le→leb, lit<, lt-leb, lt_of_lt_of_le, ltb, mod-lt, mul-add-mod_self_right, mul_comm, mul_right_comm, mul-suc, nan, ne_eqb, rules, negsuc, neg_ℤ, not, of_z, pos, refl, replicate, subst, suc, sym, take, take_at, to_z, to_z-of_z, true, true≢false, w32, zero, ℕ, ℤ, ⊎_elim}
pub use Rattle.thousandths.proofs.Sizes.{InRange}
unfoldable pub use Rattle.thousandths.specs.Thousandths.{thousandths, twos_complement}
pub use Rattle.refusal.specs.Outcomes.{Outcome, Row, ◌then◌, ◌⟫◌, accepted, row}
pub use Rattle.pages.proofs.Growing.{and_then, no_more, same_length, same_more}
pub use Rattle.fields.specs.declared.fields.Value.TheVariants.{Count}
pub use Rattle.record.specs.Entries.{entry_for, entry_of, no_readings, with_value}
pub use Rattle.std.specs.Prelude.{is_some}
pub use Rattle.record.specs.declared.entries.Readings.{Readings}
unfoldable pub use Rattle.writer.specs.Records.{field_with, fields_from}
pub use Rattle.writer.specs.Records.{record_of}
unfoldable pub use Rattle.mast.specs.Judge.{air_outcome, judge, judged}
pub use Rattle.mast.specs.Judge.{air_rows, judge_by, resolved_by, way_rows}
unfoldable pub use Rattle.load_text.specs.Asked.{load_asked_by}
pub use Rattle.load_text.specs.Asked.{asked_in, whole_in}
pub use Rattle.load_text.specs.CountLaws.{CountBetween}
unfoldable pub use Rattle.load_text.specs.Counts.{counts_of, drawn, load_counts}
pub use Rattle.load_text.specs.Laws.{CountIn, IsOfTheLoad}
unfoldable pub use Rattle.load_text.specs.Records.{load_readings, load_record, readings_of_counts}
pub use Rattle.load_text.specs.Records.{with_count}
unfoldable pub use Rattle.load_text.specs.SplitMix.{mixed, state_after}
pub use Rattle.load_text.specs.SplitMix.{advanced, output, xor_shifted}
unfoldable pub use Rattle.load_text.specs.Text.{bytes_line, judged_text, load_record_text, records_text}
pub use Rattle.load_text.specs.Text.{length_taken, records_in}
pub use Rattle.load_text.specs.declared.counts.LoadCounts.{LoadCounts}
