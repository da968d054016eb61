-- The trim class, document 02: "the count of these densities at or below the figure: 1.00, 1.05, 1.10, 1.15, 1.20, 1.25 kg/m³, each as its double".
-- Definitions only.
use Rattle.std.specs.Prelude.{ℕ, ◌+◌, cond, List, [], ◌∷◌, Float}
use Rattle.std.specs.Float.Ieee.{le}
use Rattle.arithmetic.specs.Decimals.{decimal}
use Rattle.refusal.specs.Outcomes.{Outcome, accepted, ◌⟫◌}
use Rattle.record.specs.declared.entries.Readings.{Readings}
use Rattle.mast.specs.Judge.{judged}

unfoldable pub class_densities : List Float
class_densities = decimal "1.00" ∷ decimal "1.05" ∷ decimal "1.10" ∷ decimal "1.15" ∷ decimal "1.20" ∷ decimal "1.25" ∷ []

-- how many of some densities are at or below d
unfoldable pub count_at_or_below : List Float → Float → ℕ
count_at_or_below [] d = 0
count_at_or_below (x ∷ xs) d = cond (le x d) 1 0 + count_at_or_below xs d

unfoldable pub trim_class : Float → ℕ
trim_class d = count_at_or_below class_densities d

-- ---- of readings that are accepted
unfoldable pub class_of : Readings → Outcome ℕ
class_of r = judged r ⟫ (λ f. accepted (trim_class f.density_kg_m3))
