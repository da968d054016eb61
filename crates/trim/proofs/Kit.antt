-- The names that most proofs here use, of the kit, of the crates below and of the definitions, from one place. Nothing is defined here.
pub use Rattle.std.specs.Prelude.{None, Option, Some, is_some}
unfoldable pub use Rattle.arithmetic.proofs.Kit.{le}
pub use Rattle.arithmetic.proofs.Kit.{Bool, Float, List, T, [], ◌++◌, ◌+◌, ◌-◌, ◌<◌, ◌||◌, ◌∙◌, ◌∷◌, ◌≡◌, ◌≤◌, ◌⊎◌, add-one, add-zero, ap, ap₂, arith, cond, drop, drop-cons, eq-eqb, eq-or-lt_of_le, eqb, eqb-false, eqb-true, false, get_or, leb, leb→le, length, nan, ne_eqb, rules, not, refl, subst, suc, sym, true, zero, zero-add, ℕ, ⊎_elim}
pub use Rattle.refusal.specs.Outcomes.{Outcome, Row, ◌then◌, ◌⟫◌, accepted, refused, row, outcome}
pub use Rattle.refusal.specs.declared.judge.Figures.{Figures}
pub use Rattle.fields.specs.Fields.{measured_pressure, temperature}
pub use Rattle.record.specs.Entries.{entry_of, value_or_zero}
pub use Rattle.record.specs.Readings.{read_record, read_rows, readings}
pub use Rattle.record.specs.declared.entries.Readings.{Readings}
unfoldable pub use Rattle.mast.specs.Judge.{judge, judged}
pub use Rattle.mast.specs.Judge.{reading_rows, record_rows, resolved}
unfoldable pub use Rattle.trim.specs.Changes.{tried}
pub use Rattle.trim.specs.Changes.{another, by, change, changed, changed_by, changed_count}
unfoldable pub use Rattle.trim.specs.Classes.{class_densities, class_of, count_at_or_below, trim_class}
unfoldable pub use Rattle.trim.specs.InOrder.{changes, changes_from, first_of}
pub use Rattle.trim.specs.InOrder.{changes_of, or_else}
pub use Rattle.trim.specs.Laws.{Asks, FirstToGive, Gives, NoneGives, OneOfThe800, next_for, place, rank}
unfoldable pub use Rattle.trim.specs.Search.{next_from, next_of, next_trim_class, next_with}
pub use Rattle.trim.specs.Search.{Next, start_of}
pub use Rattle.trim.specs.declared.changes.Change.{Change}
pub use Rattle.trim.specs.declared.changes.Direction.TheVariants.{Down, Up}
pub use Rattle.trim.specs.declared.changes.Quantity.{Quantity}
pub use Rattle.trim.specs.declared.changes.Quantity.TheVariants.{MeasuredPressure, Temperature}
pub use Rattle.trim.specs.declared.changes.Start.{Start}
pub use Rattle.trim.specs.declared.changes.Turn.{Turn}
