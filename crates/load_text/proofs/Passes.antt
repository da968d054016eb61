-- Readings of the load pass every check before those of their air. Assumes nothing.
use Rattle.std.specs.Prelude.{None, Option, Some}
use Rattle.fields.specs.declared.fields.Value.{Value}
use Rattle.load_text.proofs.Kit.{◌≡◌, sym, ap, ap₂, ◌∙◌, subst, Bool, false, not, ◌||◌, List, [], ◌∷◌, ◌++◌, ⊎_elim, ℤ, pos, neg_ℤ, Float, fits, of_bits, round, lt, accepted, Row, row, ◌then◌, thousandths, Readings, is_some, entry_for, entry_of, air_rows, air_outcome, way_rows, resolved_by, judged, CountBetween, CountIn, IsOfTheLoad, InRange}
use Rattle.refusal.specs.Causes.{NoneHolds}
use Rattle.refusal.proofs.Rows.{then_append, then-none, none_both}
use Rattle.arithmetic.specs.Decimals.{nought}
use Rattle.thousandths.proofs.Words.{count_of_word_lem}
use Rattle.density_altitude.specs.Inverse.{absolute_zero, temperature_rows}
use Rattle.fields.specs.Fields as meaning
use Rattle.station.specs.Resolved.{ordinary}
use Rattle.station.specs.Figures.{figures_of}
use Rattle.mast.specs.Checks.{has, is_clash, finite_rows, pressure_rows, humidity_rows, present, value_rows, ordinary_rows}
use Rattle.load_text.proofs.Order.{in_range_lem, is_finite_lem, not_down-to, not_below}

-- ---- the entry of a count in a range passes what the double of each count in it passes
module _ {low high : ℤ} {s : (Option Value)} (l : InRange low) (h : InRange high) (here : CountIn low high s) where
  pub entry : entry_for s ≡ Some (thousandths here.count)
  entry = ap entry_for here.stored ∙ ap (λ (z : ℤ). Some (thousandths z)) (count_of_word_lem here.count (in_range_lem low high here.count l h here.between))

  passes : (rows : Float → List Row) → ((z : ℤ) → InRange z → CountBetween low high z → NoneHolds (rows (thousandths z))) → NoneHolds (present rows (entry_for s))
  passes rows test = subst (λ (e : (Option Float)). NoneHolds (present rows e)) (sym entry) (test here.count (in_range_lem low high here.count l h here.between) here.between)

absent-passes : (rows : Float → List Row) {s : (Option Value)} → s ≡ None → NoneHolds (present rows (entry_for s))
absent-passes rows e = subst (λ (s : (Option Value)). NoneHolds (present rows (entry_for s))) (sym e) tt

-- ---- the values
temperature-passes : (z : ℤ) → InRange z → CountBetween (neg_ℤ (pos 40_000)) (pos 50_000) z → NoneHolds (temperature_rows (thousandths z))
unfolding fits of_bits lt thousandths round
temperature-passes z r between = (is_finite_lem z r, (not_down-to absolute_zero (neg_ℤ (pos 40_000)) z tt tt between.from, tt))

pressure-passes : (z : ℤ) → InRange z → CountBetween (pos 600_000) (pos 1_100_000) z → NoneHolds (pressure_rows (thousandths z))
unfolding fits of_bits lt thousandths round
pressure-passes z r between = (is_finite_lem z r, (not_down-to nought (pos 600_000) z tt tt between.from, tt))

humidity-passes : (z : ℤ) → InRange z → CountBetween (pos 0) (pos 100_000) z → NoneHolds (humidity_rows (thousandths z))
unfolding of_bits thousandths round
humidity-passes z r between = (is_finite_lem z r, (ap₂ (λ (a b : Bool). a || b) (not_below (pos 0) z between.from) (not_below z (pos 100_000) between.to), tt))

module _ (r : Readings) (h : IsOfTheLoad r) where
  humid_or_not : NoneHolds (present humidity_rows (entry_of r meaning.humidity))
  humid_or_not = ⊎_elim (λ none. absent-passes humidity_rows none) (λ some. passes tt tt some humidity_rows humidity-passes) h.humidity

  values_pass : NoneHolds (value_rows r)
  values_pass =
      let a = present finite_rows (entry_of r meaning.altitude) in
      let t = present temperature_rows (entry_of r meaning.temperature) in
      let s = present pressure_rows (entry_of r meaning.station_pressure) in
      let q = present pressure_rows (entry_of r meaning.qnh) in
      let u = present humidity_rows (entry_of r meaning.humidity) in
      let p = present pressure_rows (entry_of r meaning.measured_pressure) in
      none_both (a ++ t ++ s ++ q ++ u) p
      (none_both (a ++ t ++ s ++ q) u
      (none_both (a ++ t ++ s) q
      (none_both (a ++ t) s
      (none_both a t (passes tt tt h.altitude finite_rows (λ z range between. (is_finite_lem z range, tt))) (passes tt tt h.temperature temperature_rows temperature-passes))
      (absent-passes pressure_rows h.no_station_pressure))
      (absent-passes pressure_rows h.no_qnh))
      humid_or_not)
      (passes tt tt h.pressure pressure_rows pressure-passes)

  no_clash : is_clash r ≡ false
  no_clash = rw (h.no_station_pressure, h.no_qnh, h.no_density_altitude, h.pressure.stored)

  has-altitude : not (has r meaning.altitude) ≡ false
  has-altitude = ap (λ (s : (Option Value)). not (is_some (entry_for s))) h.altitude.stored

  pub only-air : judged r ≡ air_outcome (ordinary r)
  unfolding judged air_outcome
  only-air =
      let rows = row (is_clash r) 9 [] ∷ ordinary_rows r in
      ap (λ (e : (Option Float)). (row (is_clash r) 9 [] ∷ (way_rows r e ++ air_rows (resolved_by r e))) then accepted (figures_of (resolved_by r e))) (ap entry_for h.no_density_altitude)
      ∙ then_append rows (air_rows (ordinary r)) (accepted (figures_of (ordinary r)))
      ∙ then-none rows (no_clash, (has-altitude, values_pass))
