-- `density_order::warmth::stations_for_temperatures` meets its contract: warmer means lower, of the three calls. Assumes nothing.
use Rattle.density_order.proofs.Kit.{◌≡◌, sym, subst, subst₂, rules, T, Float, binary64, fits, places, Given, Station, Outcome, station, Accepted, InBetween, WarmerMeansLower}
use Rattle.density_order.proofs.Owned.{held}
use Rattle.density_order.proofs.Warmer.{warmer_means_lower}
use Rattle.density_order.proofs.warmth.stations_for_temperatures.Statement.{statement}
use Rattle.density_order.proofs.warmth.stations_for_temperatures.Tie as tie

-- of answers that are the definition's
of_answers : (d t₁ t t₂ : Float) {a₁ a a₂ : Outcome Station} → T (fits binary64 t₁) → T (fits binary64 t) → T (fits binary64 t₂)
    → a₁ ≡ station places d (Given t₁) → a ≡ station places d (Given t) → a₂ ≡ station places d (Given t₂) → WarmerMeansLower t₁ t t₂ a₁ a a₂
of_answers d t₁ t t₂ {a₁} {a} {a₂} f₁ f f₂ e₁ e e₂ l₁ l₂ u₁ u₂ =
    subst (λ (b : Outcome Station). InBetween a₁ b a₂) (sym e)
    (subst₂ (λ (b c : Outcome Station). InBetween b (station places d (Given t)) c) (sym e₁) (sym e₂)
    (warmer_means_lower places d t₁ t t₂ f₁ f f₂ l₁ l₂ (subst Accepted e₁ u₁) (subst Accepted e₂ u₂)))

returns : tie.Need-returns
returns c =
    let start = c.before.before.before in
    let a = start.args in
    let owned = start.well_formed in
    let cold = c.station_for_density_altitude.ensures in
    let middle = c.station_for_density_altitude-2.ensures in
    let warm = c.station_for_density_altitude-3.ensures in (
      cold,
      (
        middle,
        (
          warm,
          of_answers a.density_altitude_m a.cold_c a.middle_c a.warm_c (held a.cold_c owned.1.0.1) (held a.middle_c owned.1.1.0.1) (held a.warm_c owned.1.1.1.0.1) cold middle warm,
        ),
      ),
    )

pub stations_for_temperatures_spec : {M : Type 1} → statement M
stations_for_temperatures_spec = tie.close (tie.spec (λ c κs. search rules)
    (λ c κs. search rules)
    (λ c κs. search rules)
    returns)
