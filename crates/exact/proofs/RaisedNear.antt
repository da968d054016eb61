-- Two powers, of a base x with the exponent M / E and of a base X with the exponent P / U, are near where the bases and the exponents are. Assumes nothing.
use Rattle.exact.proofs.Kit.{◌≡◌, sym, ap, ◌∙◌, subst, subst₂, ℕ, ◌+◌, ◌*◌, ◌≤◌, ◌<◌, le_refl, mul_comm, mul-pos, one-le-pow, Fraction, ◌is_at_most◌, ◌to_the◌, ◌times◌, inverse}
use Rattle.exact.proofs.Fractions.{transitive, times-rises, raise, unraise, times-assoc, times-swap, times_power, power-power, next, exponents-near}

-- of two bases, one at most 1 + 1 / W times the other: their powers with the exponent P / U, to the e = E * U
module _ (E P U W Y : ℕ) (W₀ : 0 < W) (part : (next W to_the P) is_at_most (next Y to_the U)) where
  bases-near : (a b : Fraction) → 0 < b.under → a is_at_most (b times next W) → (a to_the (P * E)) is_at_most ((b to_the (P * E)) times (next Y to_the (U * E)))
  bases-near a b b₀ h =
      subst₂ (λ (y z : Fraction). y is_at_most z) (power-power a P E) (times_power (b to_the P) (next Y to_the U) E ∙ ap (λ (z : Fraction). z times ((next Y to_the U) to_the E)) (power-power b P E) ∙ ap (λ (z : Fraction). (b to_the (P * E)) times z) (power-power (next Y) U E))
      (raise (a to_the P) ((b to_the P) times (next Y to_the U)) E
      (transitive (a to_the P) ((b times next W) to_the P) ((b to_the P) times (next Y to_the U)) (one-le-pow P (b.under * W) (mul-pos b₀ W₀)) (raise a (b times next W) P h)
      (subst (λ (z : Fraction). z is_at_most ((b to_the P) times (next Y to_the U))) (sym (times_power b (next W) P)) (times-rises (b to_the P) (b to_the P) (next W to_the P) (next Y to_the U) (le_refl _) part))))

-- both factors
abbrev pub slack : ℕ → ℕ → Fraction
slack Y m = next Y times next m

module _ (E M P U m k W Y : ℕ) (E₀ : 0 < E) (U₀ : 0 < U) (m₀ : 0 < m) (W₀ : 0 < W) (Y₀ : 0 < Y)
    (part : (next W to_the P) is_at_most (next Y to_the U)) (not_above_lem : M * U * k ≤ P * E * k + U * E) (not_below : P * E * k ≤ M * U * k + U * E)
    (x X : Fraction) (x₀ : 0 < x.over) (x₁ : 0 < x.under) (X₁ : 0 < X.under)
    (high : x is_at_most record { over = m + k; under = m }) (low : inverse x is_at_most record { over = m + k; under = m }) where
  abbrev e : ℕ
  e = U * E

  turn : (u : Fraction) → ((u to_the E) to_the U) ≡ (u to_the e)
  turn u = power-power u E U ∙ ap (λ (n : ℕ). u to_the n) (mul_comm E U)

  -- z times both, in the powers to the e
  together : (z : Fraction) → (((z to_the e) times (next Y to_the e)) times (next m to_the e)) ≡ ((z times slack Y m) to_the e)
  together z =
      ap (λ (y : Fraction). y times (next m to_the e)) (sym (times_power z (next Y) e)) ∙ sym (times_power (z times next Y) (next m) e) ∙ ap (λ (y : Fraction). y to_the e) (times-assoc z (next Y) (next m))

  pub at_most_lem : (u v : Fraction) → 0 < v.under → (u to_the E) is_at_most (x to_the M) → x is_at_most (X times next W) → (X to_the P) is_at_most (v to_the U) → u is_at_most (v times slack Y m)
  at_most_lem u v v₁ first near last =
      unraise u (v times slack Y m) e (mul-pos U₀ E₀)
      (subst₂ (λ (a b : Fraction). a is_at_most b) (turn u) (together v)
      (transitive ((u to_the E) to_the U) (x to_the (M * U)) (((v to_the e) times (next Y to_the e)) times (next m to_the e)) (one-le-pow (M * U) x.under x₁)
      (subst (λ (b : Fraction). ((u to_the E) to_the U) is_at_most b) (power-power x M U) (raise (u to_the E) (x to_the M) U first))
      (transitive (x to_the (M * U)) ((x to_the (P * E)) times (next m to_the e)) (((v to_the e) times (next Y to_the e)) times (next m to_the e)) (mul-pos (one-le-pow (P * E) x.under x₁) (one-le-pow e m m₀))
      (exponents-near m k e m₀ x x₀ x₁ high low (M * U) (P * E) not_above_lem not_below)
      (times-rises (x to_the (P * E)) ((v to_the e) times (next Y to_the e)) (next m to_the e) (next m to_the e)
      (transitive (x to_the (P * E)) ((X to_the (P * E)) times (next Y to_the e)) ((v to_the e) times (next Y to_the e)) (mul-pos (one-le-pow (P * E) X.under X₁) (one-le-pow e Y Y₀))
      (bases-near E P U W Y W₀ part x X X₁ near)
      (times-rises (X to_the (P * E)) (v to_the e) (next Y to_the e) (next Y to_the e) (subst₂ (λ (a b : Fraction). a is_at_most b) (power-power X P E) (power-power v U E) (raise (X to_the P) (v to_the U) E last)) (le_refl _)))
      (le_refl _)))))

  pub at_least : (u v : Fraction) → 0 < u.under → (x to_the M) is_at_most (u to_the E) → X is_at_most (x times next W) → (v to_the U) is_at_most (X to_the P) → v is_at_most (u times slack Y m)
  at_least u v u₁ last near first =
      unraise v (u times slack Y m) e (mul-pos U₀ E₀)
      (subst₂ (λ (a b : Fraction). a is_at_most b) (power-power v U E) (together u)
      (transitive ((v to_the U) to_the E) (X to_the (P * E)) (((u to_the e) times (next Y to_the e)) times (next m to_the e)) (one-le-pow (P * E) X.under X₁)
      (subst (λ (b : Fraction). ((v to_the U) to_the E) is_at_most b) (power-power X P E) (raise (v to_the U) (X to_the P) E first))
      (transitive (X to_the (P * E)) ((x to_the (P * E)) times (next Y to_the e)) (((u to_the e) times (next Y to_the e)) times (next m to_the e)) (mul-pos (one-le-pow (P * E) x.under x₁) (one-le-pow e Y Y₀))
      (bases-near E P U W Y W₀ part X x x₁ near)
      (subst (λ (b : Fraction). ((x to_the (P * E)) times (next Y to_the e)) is_at_most b) (times-swap (u to_the e) (next m to_the e) (next Y to_the e))
      (times-rises (x to_the (P * E)) ((u to_the e) times (next m to_the e)) (next Y to_the e) (next Y to_the e)
      (transitive (x to_the (P * E)) ((x to_the (M * U)) times (next m to_the e)) ((u to_the e) times (next m to_the e)) (mul-pos (one-le-pow (M * U) x.under x₁) (one-le-pow e m m₀))
      (exponents-near m k e m₀ x x₀ x₁ high low (P * E) (M * U) not_below not_above_lem)
      (times-rises (x to_the (M * U)) (u to_the e) (next m to_the e) (next m to_the e) (subst₂ (λ (a b : Fraction). a is_at_most b) (power-power x M U) (turn u) (raise (x to_the M) (u to_the E) U last)) (le_refl _)))
      (le_refl _))))))
