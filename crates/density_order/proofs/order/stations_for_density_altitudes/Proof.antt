-- `density_order::order::stations_for_density_altitudes` meets its contract: demand 3, of the three calls. Assumes nothing.
use Rattle.density_order.proofs.Kit.{◌≡◌, sym, subst, subst₂, rules, T, lit≤, Float, binary64, fits, le, Reading, Station, Outcome, station, Accepted, Demand₃, places}
use Rattle.density_order.proofs.Spread.{ReadingFits}
use Rattle.density_order.proofs.Owned.{held, reading-held}
use Rattle.density_order.proofs.Demand.{demand}
use Rattle.density_order.proofs.order.stations_for_density_altitudes.Statement.{statement}
use Rattle.density_order.proofs.order.stations_for_density_altitudes.Tie as tie

-- of answers that are the definition's
of_answers : (t : Reading) (d₁ d d₂ : Float) {a₁ a a₂ : Outcome Station} → ReadingFits t → T (fits binary64 d₁) → T (fits binary64 d) → T (fits binary64 d₂)
    → a₁ ≡ station places d₁ t → a ≡ station places d t → a₂ ≡ station places d₂ t → T (le d₁ d) → T (le d d₂) → Accepted a₁ → Accepted a₂ → Demand₃ t d₁ d₂ a₁ a a₂
of_answers t d₁ d d₂ {a₁} {a} {a₂} g f₁ f f₂ e₁ e e₂ l₁ l₂ u₁ u₂ =
    subst (λ (b : Outcome Station). Demand₃ t d₁ d₂ a₁ b a₂) (sym e)
    (subst₂ (λ (b c : Outcome Station). Demand₃ t d₁ d₂ b (station places d t) c) (sym e₁) (sym e₂)
    (demand places (lit≤ tt) (lit≤ tt) t g d₁ d₂ f₁ f₂ (subst Accepted e₁ u₁) (subst Accepted e₂ u₂) d f l₁ l₂))

returns : tie.Need-returns
returns c =
    let start = c.before.before.before in
    let a = start.args in
    let owned = start.well_formed in
    let low = c.station_for_density_altitude.ensures in
    let middle = c.station_for_density_altitude-2.ensures in
    let high = c.station_for_density_altitude-3.ensures in (
      low,
      (
        middle,
        (
          high,
          of_answers a.explicit_temperature_c a.low_m a.middle_m a.high_m (reading-held a.explicit_temperature_c _ owned.1.1.1.0)
              (held a.low_m owned.0.1) (held a.middle_m owned.1.0.1) (held a.high_m owned.1.1.0.1) low middle high,
        ),
      ),
    )

pub stations_for_density_altitudes_spec : {M : Type 1} → statement M
stations_for_density_altitudes_spec = tie.close (tie.spec (λ c κs. search rules)
    (λ c κs. search rules)
    (λ c κs. search rules)
    returns)
