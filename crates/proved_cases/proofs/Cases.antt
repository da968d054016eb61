-- Document 01's cases hold, by computing each, and they are false of an inverse that refuses always. Assumes nothing.
use Rattle.arithmetic.proofs.Kit.{refl, sym, ap, ◌∙◌, true≢false, of_bits, neg, add, sub, mul, div, lt, le, Float}
use Rattle.arithmetic.specs.Decimals.{nought}
use Rattle.antilog.specs.Log.{word_of_units}
use Rattle.antilog.specs.Antilog.{antilog_root}
use Rattle.elementary.specs.Exponents.{exponents}
use Rattle.elementary.specs.Power.{power, power_at}
use Rattle.arithmetic.specs.Doubles.{abs_double, is_finite}
use Rattle.atmosphere.specs.declared.given.Reading.TheVariants.{FromLayer}
use Rattle.atmosphere.specs.Layers.{standard_air}
use Rattle.density_altitude.specs.Inverse.{station}
use Rattle.proved_cases.specs.Cases.{Hold, is_accepted, RefusesAlways, table_of}
use Rattle.refusal.specs.Outcomes.{Outcome}
use Rattle.atmosphere.specs.declared.given.Reading.{Reading}
use Rattle.refusal.specs.declared.inverse.Station.{Station}
use Rattle.arithmetic.specs.Places.{places}

pub cases_hold : Hold (table_of (station places))
unfolding of_bits neg add sub mul div lt le word_of_units antilog_root exponents power power_at abs_double is_finite standard_air station
cases_hold = (refl, (refl, (refl, (refl, (refl, (refl, (refl, (refl, (refl, (refl, (refl, (refl, (refl, (refl, (refl, (refl, (refl, (refl, (refl, (refl, (refl, (refl, (refl, tt)))))))))))))))))))))))

-- the case of 0 m with no temperature is accepted
pub rejects_refusal_always : (inverse : Float → Reading → Outcome Station) → RefusesAlways inverse → Hold (table_of inverse) → ⊥
rejects_refusal_always inverse refuses hold = true≢false (sym (ap is_accepted hold.1.1.1.1.1.1.1.0) ∙ refuses nought FromLayer)
