-- Laws of the height of a value: it depends on nothing but the values at the layers' bases and the layers' powers. Assumes nothing.
use Rattle.arithmetic.proofs.Kit.{◌≡◌, ap, ◌∙◌, Bool, ℕ, suc, ◌+◌, ◌≤◌, arith, Float, le}
use Rattle.atmosphere.specs.Layers.{first_from}
use Rattle.atmosphere.specs.Altitudes.{height_in, height_from}
use Rattle.atmosphere.proofs.FirstLayer.{first-le, first_ge, first-same}

-- ---- two families of values that agree at the bases, and two families of powers that give the same heights
pub height_from-same : (places : ℕ) (f g : ℕ → Float → Float) (v w : ℕ → Float) (n i : ℕ) (x : Float) → ((j : ℕ) → i ≤ j → j ≤ n + i → v j ≡ w j) → ((j : ℕ) (b : Float) → i ≤ j → j ≤ n + i → height_in places (f j) j b x ≡ height_in places (g j) j b x) → height_from places f v n i x ≡ height_from places g w n i x
height_from-same places f g v w n i x same powers =
    let test : (ℕ → Float) → ℕ → Bool = λ u j. le (u (suc j)) x in
    let j = first_from (test v) n i in
    let low = first_ge (test v) n i in
    let high = first-le (test v) n i in
    powers j (v j) low high
    ∙ ap (λ (b : Float). height_in places (g j) j b x) (same j low high)
    ∙ ap (λ (k : ℕ). height_in places (g k) k (w k) x)
    (first-same (test v) (test w) n i (λ k l h. ap (λ (y : Float). le y x) (same (suc k) (omega arith) (omega arith))))
