-- Demand 3 and request K8 reject what specs/Rejected lists: where its hypotheses hold, what it promises is computed to be false. Assumes nothing.
use Rattle.density_order.proofs.Kit.{refl, Float, of_bits, neg, add, sub, mul, div, lt, le, power, is_finite, Reading, Station, Outcome, station, Accepted, Strictly, InBetween}
use lib.Signed.{le_z_yes}
use Rattle.density_order.specs.Rejected.{RejectedAtTheEdges, Rejected, FalseWarmed, RejectedByWarmth}

-- an inverse that nowhere is strict: at each edge the promise says that it is
never-strict : (inverse : Float → Reading → Outcome Station) → ((t : Reading) (d₁ d₂ : Float) → Strictly (inverse d₁ t) (inverse d₂ t) → ⊥) → RejectedAtTheEdges inverse
unfolding of_bits le
never-strict inverse not-strict =
    record {
      low_and_cold = λ h. not-strict _ _ _ (h.strictly (record { bottom = tt; top = tt }) (record { bottom = tt; top = tt }) (le_z_yes tt) (tt, tt));
      high_and_hot = λ h. not-strict _ _ _ (h.strictly (record { bottom = tt; top = tt }) (record { bottom = tt; top = tt }) (le_z_yes tt) (tt, tt));
      low_none_given = λ h. not-strict _ _ _ (h.strictly (record { bottom = tt; top = tt }) (record { bottom = tt; top = tt }) (le_z_yes tt) tt);
      high_none_given = λ h. not-strict _ _ _ (h.strictly (record { bottom = tt; top = tt }) (record { bottom = tt; top = tt }) (le_z_yes tt) tt);
    }

pub rejected : Rejected
unfolding of_bits lt le
rejected =
    record {
      echoes = never-strict _ (λ t d₁ d₂ s. s.pressures);
      one_for_all = never-strict _ (λ t d₁ d₂ s. s.altitudes);
      heights_left = never-strict _ (λ t d₁ d₂ s. s.altitudes);
      refused_between = λ h. h.accepted;
      altitude_falls_to = λ h. h.lower.altitudes;
      altitude_falls_from = λ h. h.upper.altitudes;
      pressure_rises_to = λ h. h.lower.pressures;
      pressure_rises_from = λ h. h.upper.pressures;
      temperature_rises_to = λ h. h.lower.temperatures tt;
      temperature_rises_from = λ h. h.upper.temperatures tt;
    }

-- answers of which `InBetween` is false, and of which the outer two are accepted
never-between : (a₁ a a₂ : Outcome Station) → Accepted a₁ → Accepted a₂ → (InBetween a₁ a a₂ → ⊥) → FalseWarmed a₁ a a₂
unfolding of_bits le
never-between a₁ a a₂ u₁ u₂ wrong = (λ h. wrong (h tt tt u₁ u₂), λ h. wrong (h tt tt u₁ u₂))

pub rejected-by-warmth : RejectedByWarmth
unfolding of_bits neg add sub mul div lt le is_finite power station
rejected-by-warmth =
    record {
      refused_between = never-between _ _ _ tt tt (λ b. b.accepted);
      altitude_rises_to = never-between _ _ _ tt tt (λ b. b.colder.altitudes);
      altitude_rises_from = never-between _ _ _ tt tt (λ b. b.warmer.altitudes);
      pressure_falls_to = never-between _ _ _ tt tt (λ b. b.colder.pressures);
      pressure_falls_from = never-between _ _ _ tt tt (λ b. b.warmer.pressures);
      faa_falls = λ h. h tt tt tt tt tt;
      faa_falls_at_one_temperature = λ h. h tt tt tt tt tt;
      altitude_stays = refl;
      pressure_stays = refl;
      faa_stays = refl;
    }
