-- `density_order::order::two_stations_for_density_altitudes` meets its contract, by what its call promises where the middle one of three is the low one.
-- Assumes nothing.
use Rattle.density_order.proofs.Kit.{◌≡◌, sym, subst, ◌∙◌, rules, T, Float, binary64, fits, le, of_bits-fits, decimal, numbers-of-le, le-trans-double, Reading, Station, Outcome, Accepted, InOrder, Demand₃, TwoInOrder}
use Rattle.atmosphere.proofs.AltitudeOrder.{le_self}
use Rattle.density_order.proofs.Owned.{held}
use Rattle.density_order.proofs.order.two_stations_for_density_altitudes.Statement.{statement}
use Rattle.density_order.proofs.order.two_stations_for_density_altitudes.Tie as tie

two_in_order : (t : Reading) (d₁ d₂ : Float) {a₁ a a₂ : Outcome Station} → T (fits binary64 d₁) → T (fits binary64 d₂) → a ≡ a₁
    → (T (le d₁ d₁) → T (le d₁ d₂) → Accepted a₁ → Accepted a₂ → Demand₃ t d₁ d₂ a₁ a a₂) → TwoInOrder t d₁ d₂ a₁ a₂
two_in_order t d₁ d₂ {a₁} {a} {a₂} f₁ f₂ same promised =
    let self : T (le d₁ d₂) → T (le d₁ d₁) = λ order. le_self d₁ (numbers-of-le d₁ d₂ order).0 in
    let lowest : Float = decimal "-500" in
    let highest : Float = decimal "3000" in
    record {
      never = λ order u₁ u₂. subst (λ (b : Outcome Station). InOrder t b a₂) same (promised (self order) order u₁ u₂).upper;
      strictly =
          λ bottom order top metre mild u₁ u₂.
          let strict =
          (promised (self order) order u₁ u₂).strictly
          (record { bottom = bottom; top = le-trans-double d₁ d₂ highest f₁ f₂ (of_bits-fits binary64 _) order top })
          (record { bottom = le-trans-double lowest d₁ d₂ (of_bits-fits binary64 _) f₁ f₂ bottom order; top = top })
          metre mild in
          (strict.altitudes, strict.pressures);
    }

returns : tie.Need-returns
returns c =
    let a = c.args in
    let owned = c.well_formed in
    let three = c.stations_for_density_altitudes-stations.ensures in
    (three.0, (three.1.1.0, two_in_order a.explicit_temperature_c a.low_m a.high_m (held a.low_m owned.0.1) (held a.high_m owned.1.0.1) (three.1.0 ∙ sym three.0) three.1.1.1))

pub two_stations_for_density_altitudes_spec : {M : Type 1} → statement M
two_stations_for_density_altitudes_spec = tie.close (tie.spec (λ c κs. search rules)
    returns)
