-- The names that most proofs here use, of the kit, of the crates below and of the definitions, from one place. Nothing is defined here.
pub use Rattle.std.specs.Prelude.{None, Option, Result, Some, is_some}
unfoldable pub use Rattle.arithmetic.proofs.Kit.{div, eq, flat_map, lt, mul, neg, of_bits, round}
pub use Rattle.arithmetic.proofs.Kit.{Bool, Float, List, [], ◌&&◌, ◌*◌, ◌++◌, ◌<◌, ◌||◌, ◌∙◌, ◌∷◌, ◌≡◌, ◌≢◌, ◌≤◌, ap, ap₂, arith, binary64, cond, down, down_pos, eqb, false, false≢true, fin, inf, length, nan, ne_eqb, rules, not, not-false, pos, refl, subst, subst₂, suc, sym, take, true, true≢false, up, up_pos, zero, zero-mul, ℕ}
pub use Rattle.arithmetic.specs.Decimals.{decimal, one}
pub use Rattle.arithmetic.specs.Places.{places}
pub use Rattle.refusal.proofs.Rows.{Never, after_check, exactly, exactly-by, never_both, never-refused, none_after, none_before, then_append, then_next, then-rows, then_same}
pub use Rattle.refusal.specs.Outcomes.{Outcome, Row, ◌then◌, ◌⟫◌, accepted, numbers, outcome, passed, refusal, refused, row}
pub use Rattle.refusal.specs.declared.judge.Figures.{Figures}
pub use Rattle.atmosphere.specs.declared.given.Reading.{Reading}
unfoldable pub use Rattle.density_altitude.specs.Inverse.{station}
pub use Rattle.density_altitude.specs.Inverse.{resolve, station_rows, temperature_rows}
pub use Rattle.fields.specs.Fields.{altitude, density_altitude, humidity, meanings, measured_pressure, qnh, size_of, station_pressure, temperature}
pub use Rattle.record.specs.Entries.{entry_of, value_or_zero}
pub use Rattle.record.specs.Readings.{read_record, read_rows, readings}
pub use Rattle.record.specs.declared.entries.Readings.{Readings}
unfoldable pub use Rattle.station.specs.Figures.{figures_with}
pub use Rattle.station.specs.Figures.{figures_of, shown_celsius, shown_hectopascals, shown_pressure, shown_temperature}
unfoldable pub use Rattle.station.specs.Resolved.{ordinary}
pub use Rattle.station.specs.Resolved.{at_station, given_temperature, measured_or, pressure_of, resolved_pressure, resolved_temperature, unmeasured_pressure}
pub use Rattle.station.specs.declared.resolved.Resolved.{Resolved}
pub use Rattle.mast.specs.Checks.{finite_rows, has, humidity_rows, is_clash, ordinary_rows, present, pressure_rows, value_rows}
unfoldable pub use Rattle.mast.specs.Judge.{air_outcome, judge, judged}
pub use Rattle.mast.specs.Judge.{air_rows, judge_by, reading_rows, record_rows, resolved, resolved_by, way_rows}
