-- Doubles above zero: what they are in units of 2 ^ -1074, and which of them are normal. Assumes nothing.
use Rattle.exact.proofs.Kit.{◌≡◌, refl, sym, ap, ◌∙◌, Bool, true, false, ◌&&◌, ℕ, suc, ◌*◌, ◌^◌, ◌≤◌, ◌<◌, le_trans, le_of_eq, mul-le-mul_right, le_of_mul-le-mul_right, arith, ℤ, T, eqb, ltb, eqb→eq, ltb→lt, lt→ltb, lit<, pow-add, Float, nan, inf, fin, binary64, up, down, fits, and_l, and_r, num, den, positive, units_of, above, beneath, units-exact, over, under, Normal, Exact}
use Rattle.exact.proofs.Rounded.{N}
use Rattle.exact.proofs.Tracks.{Bounds, Tracks, positive-by}

pub record Positive (x : Float) : Type 0 where
  pub none-under : under x ≡ 0
  pub all-over : over x ≡ units_of x
  pub is-over : num x * N ≡ over x * den x

pub positive-units : (x : Float) → T (positive x) → T (fits binary64 x) → Positive x
unfolding N above beneath
positive-units nan h f = absurd h
positive-units (inf s) h f = absurd h
positive-units (fin true m e) h f = absurd h
positive-units (fin false m e) h f = record { none-under = refl; all-over = refl; is-over = units-exact false m e f }

pub positive_of : {b : Bounds} (x : Float) (X : Exact) → Tracks b x X → b.M ≡ 0 → 0 < b.L → T (positive x)
positive_of x X t = positive-by (λ u v. T (positive v)) (λ s m n e d. lt→ltb 0 (suc n) (omega arith)) x x X X t t

-- tested of its bounds
abbrev pub is_above : Bounds → Bool
is_above b = eqb b.M 0 && ltb 0 b.L

pub positive-tested : {b : Bounds} (x : Float) (X : Exact) → Tracks b x X → T (is_above b) → T (positive x)
positive-tested {b} x X t h = positive_of x X t (eqb→eq b.M 0 (and_l (eqb b.M 0) (ltb 0 b.L) h)) (ltb→lt 0 b.L (and_r (eqb b.M 0) (ltb 0 b.L) h))

-- of 2 ^ 52 units or more
pub normal-of : {b : Bounds} (x : Float) (X : Exact) → Tracks b x X → b.M ≡ 0 → 2 ^ 52 ≤ b.L → Normal x
normal-of {b} x X t none some =
    let p : Positive x = positive-units x (positive_of x X t none (omega (arith, some))) t.double in
    positive-by (λ u v. T (fits binary64 v) → 2 ^ 52 ≤ units_of v → Normal v) large x x X X t t none (omega (arith, some)) t.double (omega (arith, t.low, none, some, p.none-under, p.all-over))
  where
    go : (n d u P q : ℕ) → n * (P * q) ≡ u * d → q ≤ u → 0 < q → 1 * d ≤ n * P
    go n d u P q is some q₀ = le_of_mul-le-mul_right {k = q} (le_trans (le_of_eq (omega arith)) (le_trans (mul-le-mul_right d some) (le_of_eq (sym is ∙ omega arith)))) q₀

    large : (s : Bool) (m n : ℕ) (e d : ℤ) → T (fits binary64 (fin false (suc n) d)) → 2 ^ 52 ≤ units_of (fin false (suc n) d) → Normal (fin false (suc n) d)
    large s m n e d f some =
        (lt→ltb 0 (suc n) (omega arith), go (suc n * up d) (down d) (units_of (fin false (suc n) d)) (2 ^ 1022) (2 ^ 52) (ap (λ (x : ℕ). suc n * up d * x) (sym (pow-add 2 1022 52)) ∙ units-exact false (suc n) d f) some (lit< tt))
