-- The names that most proofs here use, of the kit, of the crates below and of the definitions, from one place. Nothing is defined here.
pub use Rattle.std.specs.Prelude.{None, Option, Some, is_some}
pub use Rattle.arithmetic.proofs.Kit.{Bool, Float, List, [], ◌&&◌, ◌++◌, ◌+◌, ◌<◌, ◌||◌, ◌∙◌, ◌∷◌, ◌≡◌, ◌≢◌, ◌≤◌, ◌⊎◌, ap, ap₂, arith, cond, eq-or-lt_of_le, false, false≢true, inl, inr, le_of_suc-le-suc, not, refl, subst, suc, sym, true, zero, ℕ}
unfoldable pub use Rattle.arithmetic.specs.Middle.{middle}
pub use Rattle.arithmetic.specs.Middle.{one_if}
pub use Rattle.refusal.specs.Outcomes.{Outcome, Row, ◌then◌, ◌⟫◌, accepted, refused}
pub use Rattle.refusal.specs.declared.judge.Figures.{Figures}
pub use Rattle.fields.specs.Fields.{meanings}
pub use Rattle.record.specs.Entries.{entry_of, with_entry}
pub use Rattle.record.specs.Readings.{read_record, read_rows, readings}
pub use Rattle.record.specs.declared.entries.Readings.{Readings}
unfoldable pub use Rattle.mast.specs.Judge.{judge, judged}
pub use Rattle.mast.specs.Judge.{reading_rows, record_rows, resolved}
unfoldable pub use Rattle.vote.specs.Fields.{not_in_all_of, voted_of}
pub use Rattle.vote.specs.Fields.{any_not_in_all, is_not_in_all, shared_rows, voted, with_middle}
pub use Rattle.vote.specs.Laws.{Accepts, SameFields, in_how_many, middle_entry}
unfoldable pub use Rattle.vote.specs.Vote.{accepted_readings, vote, voted_outcome}
pub use Rattle.vote.specs.Vote.{VoteOutcome, after_mast, by_mast, by_no_mast}
