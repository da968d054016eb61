-- An accepted answer is the resolved station, whose figures pass the tests of document 01's table. Assumes nothing.
use Rattle.density_order.proofs.Kit.{◌≡◌, refl, sym, ap, subst, ◌∙◌, Bool, true, false, not, ◌&&◌, ℕ, T, Float, le, and_i, and_l, and_r, Outcome, accepted, refused, nought, Reading, Given, FromLayer, is_finite, is_finite_above, Station, resolve, absolute_zero, has_air, station_rows, station, Accepted}
use mathlib.Core.Bool.{not-not}
use Rattle.refusal.specs.Causes.{NoneHolds, ExactlyCaused}
use Rattle.refusal.proofs.Rows.{exactly}

-- each of 1 to 4 has exactly its cause
pub caused : (p : ℕ) (d : Float) (t : Reading) → ExactlyCaused (station_rows p d t) (resolve p d t) (station p d t)
unfolding station
caused p d t = exactly (resolve p d t) (station_rows p d t)

-- ---- the tests of a resolved station
pub record Exists (s : Station) : Type 0 where
  pub altitude : T (is_finite s.altitude_m)
  pub pressure : T (is_finite_above nought s.pressure_hpa)
  pub temperature : T (is_finite_above absolute_zero s.temperature_c)

module _ (s : Station) where
  abbrev a : Bool
  a = is_finite s.altitude_m

  abbrev b : Bool
  b = is_finite_above nought s.pressure_hpa

  abbrev c : Bool
  c = is_finite_above absolute_zero s.temperature_c

  pub exists : T (has_air s) → Exists s
  exists h = record { altitude = and_l a (b && c) h; pressure = and_l b c (and_r a (b && c) h); temperature = and_r b c (and_r a (b && c) h) }

  pub has_air_lem : Exists s → T (has_air s)
  has_air_lem e = and_i a (b && c) e.altitude (and_i b c e.pressure e.temperature)

-- ---- accepted, by its tests
abbrev temperature_read : Reading → Bool
temperature_read (Given t) = is_finite t && not (le t absolute_zero)
temperature_read FromLayer = true

pub record Granted (p : ℕ) (d : Float) (t : Reading) : Type 0 where
  pub finite : T (is_finite d)
  pub read : T (temperature_read t)
  pub air : T (has_air (resolve p d t))

-- a row that does not hold, and its test
passes : (b : Bool) → not b ≡ false → T b
passes b e = subst T (sym (ap not e) ∙ not-not b) tt

holds_not : (b : Bool) → T b → not b ≡ false
holds_not true h = refl
holds_not false h = absurd h

both : (a b : Bool) → not a ≡ false → b ≡ false → T (a && not b)
both true false e f = tt
both true true e f = subst T f tt
both false b e f = subst T e tt

pub granted : (p : ℕ) (d : Float) (t : Reading) → Accepted (station p d t) → Granted p d t
granted p d t h = by-outcome (station p d t) refl h
  where
    by_rows : (u : Reading) → NoneHolds (station_rows p d u) → Granted p d u
    by_rows (Given u) n = record { finite = passes (is_finite d) n.0; read = both (is_finite u) (le u absolute_zero) n.1.0 n.1.1.0; air = passes (has_air (resolve p d (Given u))) n.1.1.1.0 }
    by_rows FromLayer n = record { finite = passes (is_finite d) n.0; read = tt; air = passes (has_air (resolve p d FromLayer)) n.1.0 }

    by-outcome : (o : Outcome Station) → station p d t ≡ o → Accepted o → Granted p d t
    by-outcome (accepted s) e h = by_rows t ((caused p d t).accepted_because e).0
    by-outcome (refused number values) e h = absurd h

pub is-station : (p : ℕ) (d : Float) (t : Reading) → Granted p d t → station p d t ≡ accepted (resolve p d t)
is-station p d t g = (caused p d t).accepted_where (none t g.read g.air)
  where
    none : (u : Reading) → T (temperature_read u) → T (has_air (resolve p d u)) → NoneHolds (station_rows p d u)
    none (Given u) r a =
        let warm = holds_not (not (le u absolute_zero)) (and_r (is_finite u) (not (le u absolute_zero)) r) in
        (holds_not (is_finite d) g.finite, (holds_not (is_finite u) (and_l (is_finite u) (not (le u absolute_zero)) r), (sym (not-not (le u absolute_zero)) ∙ warm, (holds_not (has_air (resolve p d (Given u))) a, tt))))
    none FromLayer r a = (holds_not (is_finite d) g.finite, (holds_not (has_air (resolve p d FromLayer)) a, tt))
