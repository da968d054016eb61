-- Laws of the first layer that passes a test: it is one of those searched, it depends on nothing but the test there, and of a test that a higher layer passes
-- too it tells every answer. Assumes nothing.
use Rattle.arithmetic.proofs.Kit.{◌≡◌, refl, sym, ap, ap₂, subst, ◌∙◌, Bool, true, false, cond, ℕ, zero, suc, ◌+◌, ◌-◌, ◌≤◌, ◌<◌, le_refl, arith, le-leb, lt-leb, leb}
use Rattle.atmosphere.specs.Layers.{first_from}

-- at most the last
pub first-le : (b : ℕ → Bool) (n i : ℕ) → first_from b n i ≤ n + i
unfolding first_from
first-le b zero i = omega arith
first-le b (suc n) i = either (b i) (first-le b n (suc i))
  where
    either : (t : Bool) → first_from b n (suc i) ≤ n + suc i → cond t i (first_from b n (suc i)) ≤ suc n + i
    either true h = omega arith
    either false h = omega arith

-- at least the first
pub first_ge : (b : ℕ → Bool) (n i : ℕ) → i ≤ first_from b n i
unfolding first_from
first_ge b zero i = le_refl i
first_ge b (suc n) i = either (b i) (first_ge b n (suc i))
  where
    either : (t : Bool) → suc i ≤ first_from b n (suc i) → i ≤ cond t i (first_from b n (suc i))
    either true h = le_refl i
    either false h = omega arith

-- two tests that agree where they are asked
pub first-same : (a b : ℕ → Bool) (n i : ℕ) → ((j : ℕ) → i ≤ j → j < n + i → a j ≡ b j) → first_from a n i ≡ first_from b n i
unfolding first_from
first-same a b zero i same = refl
first-same a b (suc n) i same =
    ap₂ (λ (t : Bool) (j : ℕ). cond t i j) (same i (le_refl i) (omega arith)) (first-same a b n (suc i) (λ j l h. same j (omega arith) (omega arith)))

-- from layer i on, by its test
pub first-step : (b : ℕ → Bool) (i : ℕ) (t : Bool) → i < 6 → b i ≡ t → first_from b (6 - i) i ≡ cond t i (first_from b (6 - (i + 1)) (i + 1))
unfolding first_from
first-step b i t h e =
    let next : i + 1 ≡ suc i = omega arith in
    let left : 6 - i ≡ suc (6 - (i + 1)) = omega arith in
    ap (λ (n : ℕ). first_from b n i) left ∙ simp (sym next, e)

-- ---- a test that the next layer passes too, up to layer m
module _ (b : ℕ → Bool) (m : ℕ) (next : (j : ℕ) → suc j < m → b j ≡ true → b (suc j) ≡ true) where
  stays : (i k : ℕ) → k + i < m → b i ≡ true → b (k + i) ≡ true
  stays i zero h e = subst (λ (j : ℕ). b j ≡ true) (omega arith) e
  stays i (suc k) h e = subst (λ (j : ℕ). b j ≡ true) (omega arith) (next (k + i) (omega arith) (stays i k (omega arith) e))

  -- a layer passes exactly if the first one that does is at most it
  pub told-by_first : (n i k : ℕ) → n + i ≤ m → k < n → b (k + i) ≡ leb (first_from b n i) (k + i)
  unfolding first_from
  told-by_first zero i k l h = absurd (omega arith)
  told-by_first (suc n) i k l h = either (b i) k refl h (λ j g. told-by_first n (suc i) j (omega arith) g)
    where
      either : (t : Bool) (k : ℕ) → b i ≡ t → k < suc n → ((j : ℕ) → j < n → b (j + suc i) ≡ leb (first_from b n (suc i)) (j + suc i)) → b (k + i) ≡ leb (cond t i (first_from b n (suc i))) (k + i)
      either true k e h above = stays i k (omega arith) e ∙ sym (le-leb i (k + i) (omega arith))
      either false zero e h above =
          let same : 0 + i ≡ i = omega arith in
          subst (λ (j : ℕ). b j ≡ leb (first_from b n (suc i)) j) (sym same) (e ∙ sym (lt-leb (first_from b n (suc i)) i (first_ge b n (suc i))))
      either false (suc k) e h above =
          let same : k + suc i ≡ suc k + i = omega arith in
          subst (λ (j : ℕ). b j ≡ leb (first_from b n (suc i)) j) same (above k (omega arith))
