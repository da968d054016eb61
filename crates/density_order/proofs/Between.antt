-- What lies between two accepted density altitudes is accepted, and the figures are in order: the pressure altitudes keep the order of the density altitudes.
-- Assumes nothing.
use Rattle.density_order.proofs.Kit.{sym, subst₂, ℕ, T, Float, binary64, fits, le, of_bits-fits, div-fits, ◌⊗◌, Reading, Given, FromLayer, is_finite, is_finite_above, foot, pressure_altitude_feet, station_celsius, resolve, absolute_zero, station, NoneGiven, InOrder, Corrected, corrected-finite, pressure_altitude-rises, pressure_altitude-fits, temperature-falls}
use Rattle.density_order.proofs.Accepted.{Exists, exists, has_air_lem, Granted, is-station}
use Rattle.density_order.proofs.Heights.{Climbs, finite-between, above-between, to-middle, from-middle, middle-exists}

-- a finite altitude has a finite correction
corrected : (t : Reading) (d : Float) → T (is_finite (pressure_altitude_feet t d ⊗ foot)) → Corrected t
corrected (Given t) d u = (corrected-finite t d u).1
corrected FromLayer d u = tt

-- ---- from d to a higher c
module _ (p : ℕ) (t : Reading) (d c : Float) (f : T (fits binary64 d)) (g : T (fits binary64 c)) (l : T (le d c)) where
  in_order : Climbs p (pressure_altitude_feet t d) (pressure_altitude_feet t c) → Granted p d t → Granted p c t → InOrder t (station p d t) (station p c t)
  in_order climbs v w =
      subst₂ (InOrder t) (sym (is-station p d t v)) (sym (is-station p c t w)) (record { altitudes = climbs.altitudes; pressures = climbs.pressures; temperatures = temperatures t })
    where
      temperatures : (t : Reading) → NoneGiven t → T (le (resolve p c t).temperature_c (resolve p d t).temperature_c)
      temperatures (Given t) n = absurd n
      temperatures FromLayer n = temperature-falls d c f g l

-- ---- from d₁ over d to d₂, where d₁ and d₂ are accepted
module _ (p : ℕ) (t : Reading) (d₁ d d₂ : Float) (f₁ : T (fits binary64 d₁)) (f : T (fits binary64 d)) (f₂ : T (fits binary64 d₂)) (l₁ : T (le d₁ d)) (l₂ : T (le d d₂))
    (v : Granted p d₁ t) (w : Granted p d₂ t) where
  abbrev feet : Float → Float
  feet = pressure_altitude_feet t

  abbrev celsius : Float → Float
  celsius x = station_celsius t (feet x)

  low : Exists (resolve p d₁ t)
  low = exists (resolve p d₁ t) v.air

  high : Exists (resolve p d₂ t)
  high = exists (resolve p d₂ t) w.air

  u : Corrected t
  u = corrected t d₁ low.altitude

  lower : T (le (feet d₁) (feet d))
  lower = pressure_altitude-rises t u d₁ d f₁ f l₁

  upper : T (le (feet d) (feet d₂))
  upper = pressure_altitude-rises t u d d₂ f f₂ l₂

  fit : (x : Float) → T (fits binary64 (feet x))
  fit = pressure_altitude-fits t

  warm : (t : Reading) → T (is_finite_above absolute_zero (resolve p d₁ t).temperature_c) → T (is_finite_above absolute_zero (resolve p d₂ t).temperature_c) → T (is_finite_above absolute_zero (resolve p d t).temperature_c)
  warm (Given t) a b = a
  warm FromLayer a b =
      let standard : Float → Float = λ x. (resolve p x FromLayer).temperature_c in
      above-between absolute_zero (standard d₂) (standard d) (standard d₁) (of_bits-fits binary64 _) (div-fits binary64 _ _) (div-fits binary64 _ _) b a (temperature-falls d d₂ f f₂ l₂) (temperature-falls d₁ d f₁ f l₁)

  pub between : Granted p d t
  between =
      record {
        finite = finite-between d₁ d d₂ v.finite w.finite l₁ l₂;
        read = v.read;
        air =
            has_air_lem (resolve p d t)
            (middle-exists p (feet d₁) (feet d) (feet d₂) (celsius d₁) (celsius d₂) (fit d₁) (fit d) (fit d₂) lower upper low high (celsius d) (warm t low.temperature high.temperature));
      }

  pub from_low : InOrder t (station p d₁ t) (station p d t)
  from_low =
      in_order p t d₁ d f₁ f l₁ (to-middle p (feet d₁) (feet d) (feet d₂) (celsius d₁) (celsius d₂) (fit d₁) (fit d) (fit d₂) lower upper low high) v between

  pub to_high : InOrder t (station p d t) (station p d₂ t)
  to_high =
      in_order p t d d₂ f f₂ l₂ (from-middle p (feet d₁) (feet d) (feet d₂) (celsius d₁) (celsius d₂) (fit d₁) (fit d) (fit d₂) lower upper low high) between w
