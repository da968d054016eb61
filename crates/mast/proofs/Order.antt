-- The order of the checks, as the numbers of the rows. Assumes nothing.
use Rattle.mast.proofs.Kit.{◌≡◌, refl, ap, ap₂, ◌≢◌, true, false, true≢false, false≢true, List, ◌∷◌, ◌++◌, ℕ, ◌<◌, arith, Float, Row, numbers, places, temperature_rows, station_rows, Option, None, Some, Readings, entry_of, is_some, meanings, altitude, temperature, station_pressure, qnh, humidity, density_altitude, measured_pressure, has, finite_rows, pressure_rows, humidity_rows, present, given_temperature, air_rows, way_rows, resolved}
use Rattle.record.proofs.Numbers.{fields_in-order}
use Rattle.mast.proofs.Stated.{OrderOfChecks}

of_values : (e₁ e₂ e₃ e₄ e₅ e₇ : Option Float) (rows : List Row) → is_some e₁ ≡ true → is_some e₂ ≡ true → is_some e₃ ≡ true → is_some e₄ ≡ true → is_some e₅ ≡ true → is_some e₇ ≡ true
    → numbers ((present finite_rows e₁ ++ present temperature_rows e₂ ++ present pressure_rows e₃ ++ present pressure_rows e₄ ++ present humidity_rows e₅ ++ present pressure_rows e₇) ++ rows)
    ≡ 11 ∷ 2 ∷ 3 ∷ 11 ∷ 12 ∷ 11 ∷ 12 ∷ 11 ∷ 13 ∷ 11 ∷ 12 ∷ numbers rows
of_values (Some a) (Some b) (Some c) (Some d) (Some e) (Some f) rows h₁ h₂ h₃ h₄ h₅ h₇ = refl
of_values None e₂ e₃ e₄ e₅ e₇ rows h₁ h₂ h₃ h₄ h₅ h₇ = absurd (false≢true h₁)
of_values (Some a) None e₃ e₄ e₅ e₇ rows h₁ h₂ h₃ h₄ h₅ h₇ = absurd (false≢true h₂)
of_values (Some a) (Some b) None e₄ e₅ e₇ rows h₁ h₂ h₃ h₄ h₅ h₇ = absurd (false≢true h₃)
of_values (Some a) (Some b) (Some c) None e₅ e₇ rows h₁ h₂ h₃ h₄ h₅ h₇ = absurd (false≢true h₄)
of_values (Some a) (Some b) (Some c) (Some d) None e₇ rows h₁ h₂ h₃ h₄ h₅ h₇ = absurd (false≢true h₅)
of_values (Some a) (Some b) (Some c) (Some d) (Some e) None rows h₁ h₂ h₃ h₄ h₅ h₇ = absurd (false≢true h₇)

without_06 : (r : Readings) (e : Option Float) (rows : List Row) → is_some e ≡ false → ((m : ℕ) → m < meanings → m ≢ density_altitude → has r m ≡ true)
    → numbers (way_rows r e ++ rows) ≡ 10 ∷ 11 ∷ 2 ∷ 3 ∷ 11 ∷ 12 ∷ 11 ∷ 12 ∷ 11 ∷ 13 ∷ 11 ∷ 12 ∷ numbers rows
without_06 r (Some x) rows none all = absurd (true≢false none)
without_06 r None rows none all =
    ap (λ (ns : List ℕ). 10 ∷ ns)
    (of_values (entry_of r altitude) (entry_of r temperature) (entry_of r station_pressure) (entry_of r qnh) (entry_of r humidity) (entry_of r measured_pressure) rows
    (all altitude (omega arith) (λ e. omega arith)) (all temperature (omega arith) (λ e. omega arith)) (all station_pressure (omega arith) (λ e. omega arith))
    (all qnh (omega arith) (λ e. omega arith)) (all humidity (omega arith) (λ e. omega arith)) (all measured_pressure (omega arith) (λ e. omega arith)))

with_06 : (r : Readings) (e t u : Option Float) (rows : List Row) → is_some e ≡ true → is_some t ≡ true → is_some u ≡ true → entry_of r temperature ≡ t → entry_of r humidity ≡ u
    → numbers (way_rows r e ++ rows) ≡ 1 ∷ 2 ∷ 3 ∷ 4 ∷ 11 ∷ 13 ∷ numbers rows
with_06 r (Some d) (Some x) (Some y) rows h₆ h₂ h₅ t-is u-is =
    ap₂ (λ (t u : Option Float). numbers ((station_rows places d (given_temperature t) ++ present humidity_rows u) ++ rows)) t-is u-is
with_06 r None t u rows h₆ h₂ h₅ t-is u-is = absurd (false≢true h₆)
with_06 r (Some d) None u rows h₆ h₂ h₅ t-is u-is = absurd (false≢true h₂)
with_06 r (Some d) (Some x) None rows h₆ h₂ h₅ t-is u-is = absurd (false≢true h₅)

pub order-of-checks : OrderOfChecks
order-of-checks = record {
  fields = fields_in-order;
  without_06 = λ r none all. ap (λ (ns : List ℕ). 9 ∷ ns) (without_06 r (entry_of r density_altitude) (air_rows (resolved r)) none all);
  with_06 = λ r all.
      ap (λ (ns : List ℕ). 9 ∷ ns)
      (with_06 r (entry_of r density_altitude) (entry_of r temperature) (entry_of r humidity) (air_rows (resolved r))
      (all density_altitude (omega arith)) (all temperature (omega arith)) (all humidity (omega arith)) refl refl);
}
