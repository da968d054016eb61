-- Of figures that are accepted, document 02, K11: the mark is that of the range, and the density's mole fraction is the one shown. Assumes nothing.
use Rattle.record_laws.proofs.Kit.{◌≡◌, refl, sym, subst, ◌∙◌, Bool, true, ◌&&◌, T, Float, le, is_true, and_i, and_l, and_r, accepted, Readings, Figures, in_cipm_range, figures_with, resolved, judged}
use Rattle.arithmetic.specs.Places.{places}
use Rattle.arithmetic.specs.Decimals.{decimal, nought, hundred}
use Rattle.arithmetic.specs.Operators.{◌⊖◌, ◌⊘◌}
use Rattle.arithmetic.specs.Doubles.{clamp_double}
use Rattle.humid_air.specs.MoistAir.{ice_point, capped, air_density_at}
use Rattle.humid_air.specs.Humidity.{mole_fraction_celsius}
use Rattle.air.specs.Moist.{density_of}
use Rattle.air.specs.Station.{kelvins, pascals, atmosphere}
use Rattle.record_laws.proofs.Pressures.{of-accepted}

-- ---- the range, ends included
abbrev Within : Float → Float → Type 0
Within t p = T (le (decimal "15") t) × T (le t (decimal "27")) × T (le (decimal "600") p) × T (le p (decimal "1100"))

module _ (a b c d : Bool) where
  each : (a && b && c && d) ≡ true → T a × T b × T c × T d
  each e =
      let four : T (a && b && c && d) = subst T (sym e) tt in
      let three = and_l (a && b && c) d four in
      let two = and_l (a && b) c three in
      (and_l a b two, and_r a b two, and_r (a && b) c three, and_r (a && b && c) d four)

  all : T a × T b × T c × T d → (a && b && c && d) ≡ true
  all w = is_true (a && b && c && d) (and_i (a && b && c) d (and_i (a && b) c (and_i a b w.0 w.1) w.2) w.3)

module _ (r : Readings) (f : Figures) (e : judged r ≡ accepted f) where
  marked : f.in_cipm_range ≡ in_cipm_range f.temperature_c f.pressure_hpa
  unfolding figures_with
  marked = subst (λ (g : Figures). g.in_cipm_range ≡ in_cipm_range g.temperature_c g.pressure_hpa) (of-accepted r e).1 refl

  pub marked-because : f.in_cipm_range ≡ true → Within f.temperature_c f.pressure_hpa
  marked-because set =
      each (le (decimal "15") f.temperature_c) (le f.temperature_c (decimal "27")) (le (decimal "600") f.pressure_hpa) (le f.pressure_hpa (decimal "1100")) (sym marked ∙ set)

  pub marked_where : Within f.temperature_c f.pressure_hpa → f.in_cipm_range ≡ true
  marked_where w =
      marked
      ∙ all (le (decimal "15") f.temperature_c) (le f.temperature_c (decimal "27")) (le (decimal "600") f.pressure_hpa) (le f.pressure_hpa (decimal "1100")) w

  -- ---- the mole fraction, by °C and hPa
  abbrev celsius : Float
  celsius = kelvins places (resolved r).altitude_m (resolved r).temperature ⊖ ice_point

  abbrev hectopascals : Float
  hectopascals = pascals places (resolved r).altitude_m (resolved r).pressure ⊘ hundred

  pub fraction-capped : f.vapor_mole_fraction ≡ capped (mole_fraction_celsius places celsius hectopascals (clamp_double (resolved r).humidity_percent nought hundred))
  unfolding figures_with atmosphere density_of
  fraction-capped =
      subst (λ (g : Figures). g.vapor_mole_fraction ≡ capped (mole_fraction_celsius places celsius hectopascals (clamp_double (resolved r).humidity_percent nought hundred))) (of-accepted r e).1 refl

  pub density_of-fraction : f.density_kg_m3 ≡ air_density_at celsius hectopascals f.vapor_mole_fraction
  unfolding figures_with atmosphere density_of
  density_of-fraction = subst (λ (g : Figures). g.density_kg_m3 ≡ air_density_at celsius hectopascals g.vapor_mole_fraction) (of-accepted r e).1 refl
