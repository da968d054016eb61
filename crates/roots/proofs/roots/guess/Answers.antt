-- A step of Newton's iteration leads to no less than the root, and half a word holds every root.
use Rattle.arithmetic.proofs.Kit.{◌≡◌, refl, sym, ◌∙◌, subst, Bool, true, false, ℕ, suc, ◌-◌, ◌*◌, ◌^◌, ◌<◌, le_of_lt, min, min-eq_left, min-eq_right, leb, leb-true, leb-false, arith}
use Rattle.roots.proofs.roots.Newton.{step-above}
use Rattle.roots.proofs.roots.guess.Goals as goal

abbrev most : ℕ
most = 2 ^ 32 - 1

no_less : (n x r : ℕ) → n < 2 ^ 64 → n < suc x * suc x → r ≡ min x most → (n < suc r * suc r) × (r < 2 ^ 32)
no_less n x r fits above is = by (leb x most) refl
  where
    by : (t : Bool) → leb x most ≡ t → (n < suc r * suc r) × (r < 2 ^ 32)
    by true q = let l = leb-true x most q in let e : r ≡ x = is ∙ min-eq_left l in (subst (λ (y : ℕ). n < suc y * suc y) (sym e) above, omega (arith, l))
    by false q = let l = leb-false x most q in let e : r ≡ most = is ∙ min-eq_right (le_of_lt l) in (subst (λ (y : ℕ). n < suc y * suc y) (sym e) fits, omega arith)

pub returns : goal.returns
returns c = no_less c.args.n _ c.min.result c.ranges.n.fits (step-above c.args.n _ (omega arith)) c.min.ensures
