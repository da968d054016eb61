-- Stations at rising pressure altitudes: the altitude never falls and the pressure never rises, infinities included, and between two stations that exist there
-- is one, if its temperature can be. Assumes nothing.
use Rattle.density_order.proofs.Kit.{true, false, ℕ, zero, suc, pos, T, Float, nan, inf, fin, binary64, of_bits, mul, div, fits, lt, le, of_bits-fits, and_i, and_l, and_r, sub-fits, mul-fits, nought, ◌⊗◌, power, zero-below, le-trans-double, is_finite, is_finite_above, foot, nws_base, nws_reciprocal, nws_pressure, station_with, absolute_zero, altitude-rises, base-falls, pressure-falls}
use Rattle.arithmetic.proofs.Strict.{lt-le-trans}
use Rattle.atmosphere.specs.Station.{standard_pressure}
use Rattle.density_order.proofs.Accepted.{Exists}

-- ---- between two doubles
pub finite-between : (x y z : Float) → T (is_finite x) → T (is_finite z) → T (le x y) → T (le y z) → T (is_finite y)
unfolding is_finite le
finite-between nan y z u w h k = absurd u
finite-between (inf s) y z u w h k = absurd u
finite-between (fin s m e) nan z u w h k = h
finite-between (fin s m e) (inf true) z u w h k = h
finite-between (fin s m e) (inf false) nan u w h k = k
finite-between (fin s m e) (inf false) (inf t) u w h k = w
finite-between (fin s m e) (inf false) (fin t n d) u w h k = k
finite-between (fin s m e) (fin t n d) z u w h k = tt

pub above-between : (b x y z : Float) → T (fits binary64 b) → T (fits binary64 x) → T (fits binary64 y) → T (is_finite_above b x) → T (is_finite_above b z) → T (le x y) → T (le y z) → T (is_finite_above b y)
above-between b x y z fb fx fy u w h k =
    and_i (is_finite y) (lt b y)
    (finite-between x y z (and_l (is_finite x) (lt b x) u) (and_l (is_finite z) (lt b z) w) h k)
    (lt-le-trans b x y fb fx fy (and_r (is_finite x) (lt b x) u) h)

-- a pressure above zero has a base from zero up: a negative one has no power, and that of −∞ is ∞
base-from_zero : (p : ℕ) (x : Float) → T (is_finite_above nought (standard_pressure ⊗ power p nws_reciprocal x)) → T (le (fin false 0 (pos 0)) x)
unfolding is_finite of_bits mul div power lt
base-from_zero p nan u = absurd u
base-from_zero p (inf true) u = absurd u
base-from_zero p (inf false) u = absurd u
base-from_zero p (fin true zero e) u = absurd u
base-from_zero p (fin true (suc m) e) u = absurd u
base-from_zero p (fin false m e) u = zero-below false (pos 0) (fin false m e) tt

-- ---- from a pressure altitude to one above it
pub record Climbs (p : ℕ) (h k : Float) : Type 0 where
  pub altitudes : T (le (h ⊗ foot) (k ⊗ foot))
  pub pressures : T (le (nws_pressure p k) (nws_pressure p h))

module _ (p : ℕ) (h k : Float) (f : T (fits binary64 h)) (g : T (fits binary64 k)) (l : T (le h k)) (z : T (le nought (nws_base k))) where
  bases : T (le nought (nws_base h))
  bases = le-trans-double nought (nws_base k) (nws_base h) (of_bits-fits binary64 0) (sub-fits binary64 _ _) (sub-fits binary64 _ _) z (base-falls h k f g l)

  climbs : Climbs p h k
  unfolding of_bits
  climbs = record { altitudes = altitude-rises h k f g l; pressures = pressure-falls p h k f g l z }

-- ---- three of them, of which the outer two are those of stations that exist
module _ (p : ℕ) (h₁ h h₂ t₁ t₂ : Float) (f₁ : T (fits binary64 h₁)) (f : T (fits binary64 h)) (f₂ : T (fits binary64 h₂)) (l₁ : T (le h₁ h)) (l₂ : T (le h h₂))
    (low : Exists (station_with p h₁ t₁)) (high : Exists (station_with p h₂ t₂)) where
  highest : T (le nought (nws_base h₂))
  unfolding of_bits
  highest = base-from_zero p (nws_base h₂) high.pressure

  pub to-middle : Climbs p h₁ h
  to-middle = climbs p h₁ h f₁ f l₁ (bases p h h₂ f f₂ l₂ highest)

  pub from-middle : Climbs p h h₂
  from-middle = climbs p h h₂ f f₂ l₂ highest

  pub middle-exists : (t : Float) → T (is_finite_above absolute_zero t) → Exists (station_with p h t)
  middle-exists t warm =
      record {
        altitude = finite-between (h₁ ⊗ foot) (h ⊗ foot) (h₂ ⊗ foot) low.altitude high.altitude to-middle.altitudes from-middle.altitudes;
        pressure =
            above-between nought (nws_pressure p h₂) (nws_pressure p h) (nws_pressure p h₁) (of_bits-fits binary64 0) (mul-fits binary64 _ _) (mul-fits binary64 _ _)
            high.pressure low.pressure from-middle.pressures to-middle.pressures;
        temperature = warm;
      }
