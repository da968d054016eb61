-- The names that most proofs here use, of the kit, of the crates below and of the definitions, from one place. Nothing is defined here.
unfoldable pub use Rattle.arithmetic.proofs.Kit.{is_nan, le}
pub use Rattle.arithmetic.proofs.Kit.{Bool, Float, List, List-as-Memᴰ, List·getD-eq-default, T, [], ◌&&◌, ◌++◌, ◌||◌, ◌∙◌, ◌∷◌, ◌≡◌, ◌≤◌, ◌⊎◌, and_i, and_l, and_r, ap, arith, cond, false, inl, inr, is_true, length, ltb, ltb-false, ltb-true, refl, subst, sym, true, true≢false, ℕ, ⊎_elim}
pub use Rattle.refusal.proofs.Rows.{exactly, none_after, none_before}
pub use Rattle.refusal.specs.Outcomes.{Outcome, Row, ◌then◌, ◌⟫◌, accepted, refused}
pub use Rattle.refusal.specs.declared.judge.Figures.{Figures}
pub use Rattle.fields.specs.Fields.{altitude, density_altitude, humidity, meanings, measured_pressure, qnh, station_pressure, temperature}
pub use Rattle.record.specs.Entries.{entry_for, entry_of, stored_of, value_or_zero}
pub use Rattle.std.specs.Prelude.{is_some}
pub use Rattle.record.specs.declared.entries.Readings.{Readings}
unfoldable pub use Rattle.station.specs.Figures.{figures_with}
pub use Rattle.station.specs.Figures.{figures_of, in_cipm_range}
pub use Rattle.mast.proofs.Entries.{accepted-is_finite, judged-by_entries, neither}
unfoldable pub use Rattle.mast.specs.Judge.{judge, judge_strictly, judged}
pub use Rattle.mast.specs.Judge.{air_rows, judge_by, reading_rows, resolved, resolved_by, way_rows}
