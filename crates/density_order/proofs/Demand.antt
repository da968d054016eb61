-- Demand 3, of the definition, over any number of places from 52 to 60. Assumes nothing.
use Rattle.density_order.proofs.Kit.{sym, subst, subst₂, ℕ, ◌≤◌, T, Float, binary64, fits, le, sub-fits, Reading, pressure_altitude_feet, nws_base, station, Accepted, Temperate, InRange, OneMetreApart, Strictly, Demand₃}
use Rattle.density_order.proofs.Accepted.{Granted, granted, is-station}
use Rattle.density_order.proofs.Between.{between, from_low, to_high}
use Rattle.density_order.proofs.Spread.{ReadingFits, Bases, altitudes-apart, bases-apart}
use Rattle.density_order.proofs.PressuresApart.{pressures-apart}

module _ (p : ℕ) (least : 52 ≤ p) (most : p ≤ 60) (t : Reading) (g : ReadingFits t) (d₁ d₂ : Float) (f₁ : T (fits binary64 d₁)) (f₂ : T (fits binary64 d₂)) (a₁ : Accepted (station p d₁ t)) (a₂ : Accepted (station p d₂ t)) where
  v : Granted p d₁ t
  v = granted p d₁ t a₁

  w : Granted p d₂ t
  w = granted p d₂ t a₂

  strictly : InRange d₁ → InRange d₂ → OneMetreApart d₁ d₂ → Temperate t → Strictly (station p d₁ t) (station p d₂ t)
  strictly r₁ r₂ metre mild =
      let x : Float = nws_base (pressure_altitude_feet t d₂) in
      let y : Float = nws_base (pressure_altitude_feet t d₁) in
      let b : Bases x y = bases-apart d₁ d₂ f₁ f₂ r₁ r₂ metre t g mild in
      subst₂ Strictly (sym (is-station p d₁ t v)) (sym (is-station p d₂ t w))
      (record {
        altitudes = altitudes-apart d₁ d₂ f₁ f₂ r₁ r₂ metre t g mild;
        pressures = pressures-apart p least most x y (sub-fits binary64 _ _) (sub-fits binary64 _ _) b.least b.order b.most b.ratio;
      })

  pub demand : (d : Float) → T (fits binary64 d) → T (le d₁ d) → T (le d d₂) → Demand₃ t d₁ d₂ (station p d₁ t) (station p d t) (station p d₂ t)
  demand d f l₁ l₂ =
      record {
        accepted = subst Accepted (sym (is-station p d t (between p t d₁ d d₂ f₁ f f₂ l₁ l₂ v w))) tt;
        lower = from_low p t d₁ d d₂ f₁ f f₂ l₁ l₂ v w;
        upper = to_high p t d₁ d d₂ f₁ f f₂ l₁ l₂ v w;
        strictly = strictly;
      }
