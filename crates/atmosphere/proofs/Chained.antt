-- The tables of `altitudes`: the values at the layers' bases are the chained ones, each computed from the one below it, and the layers' exponents stand
-- at their numbers in elementary's table. Assumes nothing.
use Rattle.arithmetic.proofs.Kit.{◌≡◌, refl, ap, ◌∙◌, List, [], ◌∷◌, ℕ, zero, suc, ◌≤◌, ◌<◌, arith, get_or, Float, nan, of_bits, add, lt}
use Rattle.arithmetic.specs.Operators.{◌⊗◌, ◌⊘◌}
use Rattle.arithmetic.specs.Decimals.{decimal, one}
use Rattle.elementary.specs.Exponents.{of_double, pressure_exponent, temperature_exponent, density_exponent}
use Rattle.elementary.specs.Power.{power, power_at}
use Rattle.elementary.specs.Exp.{exp}
use Rattle.arithmetic.specs.Doubles.{abs_double}
use Rattle.atmosphere.specs.Layers.{layers, gradient}
use Rattle.atmosphere.specs.Altitudes.{across, height_in, chained_pressure, chained_ratio}
use Rattle.arithmetic.specs.Places.{places}

-- ---- the pressures
-- the code's tables: the values at the bases, and the numbers of the exponents
unfoldable pub pressures : List Float
pressures =
    decimal "101325" ∷
    decimal "22632.067277013903" ∷
    decimal "5474.890225463624" ∷
    decimal "868.0190870921797" ∷
    decimal "110.90637918254323" ∷
    decimal "66.93892084872294" ∷
    decimal "3.9564243388434446" ∷ []

unfoldable pub temperature_numbers : List ℕ
temperature_numbers = 6 ∷ 27 ∷ 7 ∷ 8 ∷ 27 ∷ 9 ∷ 10 ∷ []

pressure-step : (i : ℕ) → i < 6 → get_or pressures (suc i) nan ≡ get_or pressures i nan ⊗ across places (pressure_exponent (gradient i)) i
unfolding pressures layers lt abs_double exp power_at add
pressure-step zero h = refl
pressure-step (suc zero) h = refl
pressure-step (suc (suc zero)) h = refl
pressure-step (suc (suc (suc zero))) h = refl
pressure-step (suc (suc (suc (suc zero)))) h = refl
pressure-step (suc (suc (suc (suc (suc zero))))) h = refl
pressure-step (suc (suc (suc (suc (suc (suc i)))))) h = absurd (omega arith)

pub pressure_at_lem : (i : ℕ) → i < 7 → get_or pressures i nan ≡ chained_pressure places i
unfolding pressures layers chained_pressure
pressure_at_lem zero h = refl
pressure_at_lem (suc i) h = pressure-step i (omega arith) ∙ ap (λ (p : Float). p ⊗ across places (pressure_exponent (gradient i)) i) (pressure_at_lem i (omega arith))

pub temperature-power : (i : ℕ) (b x : Float) → i < 7 → height_in places (power_at places (get_or temperature_numbers i 0)) i b x ≡ height_in places (power places (of_double (temperature_exponent (gradient i)))) i b x
unfolding temperature_numbers layers of_bits lt abs_double power_at
temperature-power zero b x h = refl
temperature-power (suc zero) b x h = refl
temperature-power (suc (suc zero)) b x h = refl
temperature-power (suc (suc (suc zero))) b x h = refl
temperature-power (suc (suc (suc (suc zero)))) b x h = refl
temperature-power (suc (suc (suc (suc (suc zero))))) b x h = refl
temperature-power (suc (suc (suc (suc (suc (suc zero)))))) b x h = refl
temperature-power (suc (suc (suc (suc (suc (suc (suc i))))))) b x h = absurd (omega arith)

-- ---- the ratios of density
unfoldable pub ratios : List Float
ratios =
    decimal "1" ∷
    decimal "0.29707598350799796" ∷
    decimal "0.07186521577637019" ∷
    decimal "0.01079593052002415" ∷
    decimal "0.0011653342395396547" ∷
    decimal "0.000703351935189044" ∷
    decimal "5.241721994832112e-5" ∷ []

unfoldable pub ratio_numbers : List ℕ
ratio_numbers = 27 ∷ 27 ∷ 18 ∷ 19 ∷ 27 ∷ 20 ∷ 21 ∷ []

tropopause-ratio : get_or ratios 1 nan ≡ chained_ratio places 1
unfolding ratios layers chained_ratio power_at
tropopause-ratio = refl

ratio-step : (i : ℕ) → i < 5 → get_or ratios (suc (suc i)) nan ≡ get_or ratios (suc i) nan ⊗ across places (density_exponent (gradient (suc i))) (suc i)
unfolding ratios layers lt abs_double exp power_at add
ratio-step zero h = refl
ratio-step (suc zero) h = refl
ratio-step (suc (suc zero)) h = refl
ratio-step (suc (suc (suc zero))) h = refl
ratio-step (suc (suc (suc (suc zero)))) h = refl
ratio-step (suc (suc (suc (suc (suc i))))) h = absurd (omega arith)

pub ratio-at : (i : ℕ) → i < 7 → get_or ratios i nan ≡ chained_ratio places i
unfolding ratios chained_ratio
ratio-at zero h = refl
ratio-at (suc zero) h = tropopause-ratio
ratio-at (suc (suc i)) h = ratio-step i (omega arith) ∙ ap (λ (p : Float). p ⊗ across places (density_exponent (gradient (suc i))) (suc i)) (ratio-at (suc i) (omega arith))

pub ratio-power : (i : ℕ) (b x : Float) → 1 ≤ i → i < 7 → height_in places (power_at places (get_or ratio_numbers i 0)) i b x ≡ height_in places (power places (of_double (one ⊘ density_exponent (gradient i)))) i b x
unfolding ratio_numbers layers of_bits lt abs_double power_at
ratio-power zero b x l h = absurd (omega arith)
ratio-power (suc zero) b x l h = refl
ratio-power (suc (suc zero)) b x l h = refl
ratio-power (suc (suc (suc zero))) b x l h = refl
ratio-power (suc (suc (suc (suc zero)))) b x l h = refl
ratio-power (suc (suc (suc (suc (suc zero))))) b x l h = refl
ratio-power (suc (suc (suc (suc (suc (suc zero)))))) b x l h = refl
ratio-power (suc (suc (suc (suc (suc (suc (suc i))))))) b x l h = absurd (omega arith)
