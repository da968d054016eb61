-- What lies between two accepted temperatures at one density altitude is accepted, and the figures are in order: the pressure altitudes turn the order of the
-- temperatures. The FAA's density altitudes keep it. Assumes nothing.
use Rattle.density_order.proofs.Kit.{◌≡◌, sym, subst, subst₂, not, ℕ, T, Float, binary64, fits, lt, le, of_bits-fits, and_i, and_l, and_r, places, ◌⊘◌, Given, is_finite, is_finite_above, foot, faa_density_altitude, pressure_altitude_feet, resolve, absolute_zero, station, Accepted, Lower, InBetween, FaaNeverFalls, corrected-finite, pressure_altitude-falls, pressure_altitude-fits}
use lib.Dec.{not_T}
use Rattle.arithmetic.proofs.Strict.{not_le-of-less}
use Rattle.atmosphere.proofs.AltitudeOrder.{faa-never-falls}
use Rattle.density_order.proofs.Accepted.{Exists, exists, has_air_lem, Granted, granted, is-station}
use Rattle.density_order.proofs.Heights.{Climbs, above-between, to-middle, from-middle, middle-exists}

module _ (p : ℕ) (d t₁ t t₂ : Float) (f₁ : T (fits binary64 t₁)) (f : T (fits binary64 t)) (f₂ : T (fits binary64 t₂)) (l₁ : T (le t₁ t)) (l₂ : T (le t t₂))
    (a₁ : Accepted (station p d (Given t₁))) (a₂ : Accepted (station p d (Given t₂))) where
  v : Granted p d (Given t₁)
  v = granted p d (Given t₁) a₁

  w : Granted p d (Given t₂)
  w = granted p d (Given t₂) a₂

  abbrev feet : Float → Float
  feet x = pressure_altitude_feet (Given x) d

  fit : (x : Float) → T (fits binary64 (feet x))
  fit x = pressure_altitude-fits (Given x) d

  high : Exists (resolve p d (Given t₁))
  high = exists (resolve p d (Given t₁)) v.air

  low : Exists (resolve p d (Given t₂))
  low = exists (resolve p d (Given t₂)) w.air

  u : T (is_finite (d ⊘ foot))
  u = (corrected-finite t₁ d high.altitude).0

  lower : T (le (feet t₂) (feet t))
  lower = pressure_altitude-falls d u t t₂ f f₂ l₂

  upper : T (le (feet t) (feet t₁))
  upper = pressure_altitude-falls d u t₁ t f₁ f l₁

  warm : T (is_finite_above absolute_zero t)
  warm = above-between absolute_zero t₁ t t₂ (of_bits-fits binary64 _) f₁ f high.temperature low.temperature l₁ l₂

  middle : Granted p d (Given t)
  middle =
      record {
        finite = v.finite;
        read = and_i (is_finite t) (not (le t absolute_zero)) (and_l (is_finite t) (lt absolute_zero t) warm) (not_T (le t absolute_zero) (not_le-of-less absolute_zero t (and_r (is_finite t) (lt absolute_zero t) warm)));
        air = has_air_lem (resolve p d (Given t)) (middle-exists p (feet t₂) (feet t) (feet t₁) t₂ t₁ (fit t₂) (fit t) (fit t₁) lower upper low high t warm);
      }

  lowers : (x y : Float) → Climbs p (feet y) (feet x) → Granted p d (Given x) → Granted p d (Given y) → Lower (station p d (Given x)) (station p d (Given y))
  lowers x y climbs g h = subst₂ Lower (sym (is-station p d (Given x) g)) (sym (is-station p d (Given y) h)) (record { altitudes = climbs.altitudes; pressures = climbs.pressures })

  pub warmer_means_lower : InBetween (station p d (Given t₁)) (station p d (Given t)) (station p d (Given t₂))
  warmer_means_lower =
      record {
        accepted = subst Accepted (sym (is-station p d (Given t) middle)) tt;
        colder = lowers t₁ t (from-middle p (feet t₂) (feet t) (feet t₁) t₂ t₁ (fit t₂) (fit t) (fit t₁) lower upper low high) v middle;
        warmer = lowers t t₂ (to-middle p (feet t₂) (feet t) (feet t₁) t₂ t₁ (fit t₂) (fit t) (fit t₁) lower upper low high) middle w;
      }

-- ---- the FAA's density altitudes
pub faa-in_order : (p t₁ t₂ : Float) {d₁ d₂ : Float} → T (fits binary64 p) → T (fits binary64 t₁) → T (fits binary64 t₂)
    → d₁ ≡ faa_density_altitude places p t₁ → d₂ ≡ faa_density_altitude places p t₂ → FaaNeverFalls p t₁ t₂ d₁ d₂
faa-in_order p t₁ t₂ f f₁ f₂ e₁ e₂ u z u₁ u₂ l = subst₂ (λ (x y : Float). T (le x y)) (sym e₁) (sym e₂) (faa-never-falls places p t₁ t₂ f f₁ f₂ z u₁ u₂ l)
