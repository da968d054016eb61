-- A test at every number below n, so that one computed test of a table says what each entry has. Assumes nothing.
use Rattle.arithmetic.proofs.Kit.{sym, subst, Bool, true, ◌&&◌, inl, inr, ℕ, zero, suc, ◌<◌, not-suc-le-zero, eq-or-lt_of_le, le_of_suc-le-suc, T, and_l, and_r}

abbrev pub every : ℕ → (ℕ → Bool) → Bool
every zero test = true
every (suc n) test = test n && every n test

pub at : (n : ℕ) (test : ℕ → Bool) → T (every n test) → (i : ℕ) → i < n → T (test i)
at zero test t i h = absurd (not-suc-le-zero h)
at (suc n) test t i h =
    elim (eq-or-lt_of_le (le_of_suc-le-suc h)) [
      | inl e ↦ subst (λ (k : ℕ). T (test k)) (sym e) (and_l (test n) (every n test) t)
      | inr l ↦ at n test (and_r (test n) (every n test) t) i l
    ]
