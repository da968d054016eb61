-- A saturation pressure at hand serves air of its humidity, and of that humidity kept within 0 and 100 percent. Assumes nothing.
use Rattle.arithmetic.proofs.Kit.{◌≡◌, sym, ap, ◌∙◌, Float}
use Rattle.arithmetic.specs.Places.{places}
use Rattle.arithmetic.specs.Decimals.{nought, hundred}
use Rattle.arithmetic.specs.Doubles.{clamp_double}
use Rattle.humid_air.specs.Humidity.{needed_pressure}
use Rattle.humid_air.proofs.Needed.{needed_clamped}
use Rattle.air.specs.declared.moist.Saturation.{Saturation}
use Rattle.air.specs.Moist.{saturation_at, Serves}

pub served : (s : Saturation) (T h : Float) → s ≡ saturation_at places T h → Serves s h
served s T h e = ap (λ (k : Saturation). k.pressure_hpa) e ∙ ap (λ (k : Saturation). needed_pressure places k.temp_k h) (sym e)

pub clamped_serves : (s : Saturation) (h h' : Float) → Serves s h → h' ≡ clamp_double h nought hundred → Serves s h'
clamped_serves s h h' at e = at ∙ sym (needed_clamped places s.temp_k h) ∙ ap (needed_pressure places s.temp_k) (sym e)
