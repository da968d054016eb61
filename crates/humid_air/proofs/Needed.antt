-- The saturation pressure that is needed serves for the mole fraction, and is the same for a humidity and for that humidity kept within 0 and 100
-- percent. Assumes nothing.
use Rattle.arithmetic.proofs.Kit.{◌≡◌, refl, ap, Bool, true, false, cond, ℕ, Float, lt, eq, of_bits}
use Rattle.arithmetic.specs.Decimals.{nought, hundred}
use Rattle.arithmetic.specs.Operators.{◌⊗◌, ◌⊘◌}
use Rattle.arithmetic.specs.Doubles.{clamp_double}
use Rattle.humid_air.specs.Saturation.{saturation_pressure}
use Rattle.humid_air.specs.MoistAir.{mole_fraction}
use Rattle.humid_air.specs.Humidity.{needed_pressure}

-- dry air has the same mole fraction at every saturation pressure
by-test : (psv f p H : Float) (dry : Bool) → cond dry (H ⊗ f ⊘ p) (H ⊘ hundred ⊗ f ⊗ cond dry nought psv ⊗ hundred ⊘ p) ≡ cond dry (H ⊗ f ⊘ p) (H ⊘ hundred ⊗ f ⊗ psv ⊗ hundred ⊘ p)
by-test psv f p H true = refl
by-test psv f p H false = refl

pub needed_serves : (n : ℕ) (T f h p : Float) → mole_fraction (needed_pressure n T h) f h p ≡ mole_fraction (saturation_pressure n T) f h p
unfolding mole_fraction needed_pressure
needed_serves n T f h p = let H = clamp_double h nought hundred in by-test (saturation_pressure n T) f p H (eq H nought)

-- a humidity within 0 and 100 percent stays as it is
kept : (h : Float) (above : Bool) → lt h nought ≡ false → lt hundred h ≡ above → let H = cond above hundred h in clamp_double H nought hundred ≡ H
unfolding lt of_bits
kept h true low high = refl
kept h false low high = simp (low, high)

clamped : (h : Float) (below : Bool) → lt h nought ≡ below → let R = cond below nought h in let H = cond (lt hundred R) hundred R in clamp_double H nought hundred ≡ H
unfolding lt of_bits
clamped h true low = refl
clamped h false low = kept h (lt hundred h) low refl

pub needed_clamped : (n : ℕ) (T h : Float) → needed_pressure n T (clamp_double h nought hundred) ≡ needed_pressure n T h
unfolding needed_pressure
needed_clamped n T h = ap (λ (H : Float). cond (eq H nought) nought (saturation_pressure n T)) (clamped h (lt h nought) refl)
