-- The whole number q that is nearest to the square root of a whole number N, and the points half way between q and other numbers: on which side of
-- the root they lie, first for whole numbers, and then in units, u of them to the whole number. Assumes nothing.
use Rattle.arithmetic.proofs.Kit.{◌≡◌, sym, ap, ◌∙◌, subst, ◌⊎◌, inl, inr, Bool, true, false, not, cond, ℕ, zero, suc, ◌+◌, ◌*◌, ◌≤◌, ◌<◌, zero-le, le_trans, le_of_eq, le_of_lt, le_of_suc-le-suc, lt_of_lt_of_le, lt_of_le_of_lt, lt_of_not-le, not-le_of_lt, not-suc-le-zero, eq-or-lt_of_le, zero-lt-suc, add-mul, mul-mul-mul_comm, mul-pos, mul-le-mul, mul-le-mul_right, mul-lt-mul_of_pos_right, lt_of_mul-lt-mul_right, arith, T, leb, leb→le, nleb→lt}
use Rattle.roots.specs.Root.{root}
use Rattle.roots.proofs.Root.{root-le, root_gt}
use Rattle.antilog.specs.Sqrt.{nearest_root}
use Rattle.arithmetic.proofs.Powers.{squares-lt}

-- (q - 1/2) ^ 2 < N < (q + 1/2) ^ 2, in whole numbers
abbrev pub Nearest : ℕ → ℕ → Type 0
Nearest N q = (q * q < N + q) × (N ≤ q * q + q)

floor_pos : (N r : ℕ) → 0 < N → N < suc r * suc r → 0 < r
floor_pos N zero P h = absurd (not-le_of_lt h P)
floor_pos N (suc r) P h = zero-lt-suc r

pub nearest_root_lem : (N : ℕ) → 0 < N → Nearest N (nearest_root N)
nearest_root_lem N P =
    let r = root N in
    go r (floor_pos N r P (root_gt N)) (root-le N) (root_gt N) (leb N (r * r + r)) (leb→le N (r * r + r)) (nleb→lt N (r * r + r))
  where
    go : (r : ℕ) → 0 < r → r * r ≤ N → N < suc r * suc r → (b : Bool) → (T b → N ≤ r * r + r) → (T (not b) → r * r + r < N) → Nearest N (cond b r (suc r))
    go r R h g true l k = (omega arith, l tt)
    go r R h g false l k = let l' = k tt in (omega arith, omega arith)

-- ---- bounds of N are bounds of q
pub nearest-at_least : (N q h : ℕ) → Nearest N q → h * h ≤ N → h ≤ q
nearest-at_least N q h near l = le_of_suc-le-suc (lt_of_not-le (λ (g : suc q ≤ h). let m = mul-le-mul g g in let no : ⊥ = omega arith in no))

pub nearest-at_most : (N q h : ℕ) → Nearest N q → N < h * h → q ≤ h
nearest-at_most N zero h near l = zero-le
nearest-at_most N (suc p) h near l = lt_of_not-le (λ (g : h ≤ p). let m = mul-le-mul g g in let no : ⊥ = omega arith in no)

-- ---- half way between q and another whole number z
midpoint_below : (N q z : ℕ) → Nearest N q → z < q → (z + q) * (z + q) < 4 * N
midpoint_below N zero z near h = absurd (not-suc-le-zero h)
midpoint_below N (suc p) z near h =
    let top : z + suc p ≤ p + suc p = omega arith in
    lt_of_le_of_lt (mul-le-mul top top) (omega arith)

midpoint_above : (N q z : ℕ) → Nearest N q → q < z → 4 * N < (z + q) * (z + q)
midpoint_above N q z near h =
    let bottom : suc q + q ≤ z + q = omega arith in
    lt_of_lt_of_le {m = (suc q + q) * (suc q + q)} (omega arith) (mul-le-mul bottom bottom)

midpoint_at_most : (N q h : ℕ) → Nearest N q → h ≤ q → h * h ≤ N → (h + q) * (h + q) ≤ 4 * N
midpoint_at_most N q h near g l = elim (eq-or-lt_of_le g) [
  | inl e ↦ subst (λ (x : ℕ). (h + x) * (h + x) ≤ 4 * N) e (omega arith)
  | inr k ↦ le_of_lt (midpoint_below N q h near k)
]

-- ---- half way between q whole numbers and Z units, which are a whole number or fewer than h, where the root is no less than h
abbrev pub Placed : ℕ → ℕ → ℕ → Type 0
Placed h u Z = (Z < h * u) ⊎ ((z : ℕ) × (Z ≡ z * u))

module _ (N q h u : ℕ) (U : 0 < u) (near : Nearest N q) (l : h * h ≤ N) where
  in_units : (z : ℕ) → (z * u + q * u) * (z * u + q * u) ≡ (z + q) * (z + q) * (u * u)
  in_units z = ap (λ (x : ℕ). x * x) (sym (add-mul z q u)) ∙ mul-mul-mul_comm (z + q) u (z + q) u

  pub lower_is_farther_lem : (Z : ℕ) → Placed h u Z → Z < q * u → (Z + q * u) * (Z + q * u) < 4 * N * (u * u)
  lower_is_farther_lem Z (inl k) b =
      lt_of_lt_of_le (squares-lt {a = Z + q * u} {b = h * u + q * u} (omega arith)) (le_trans (le_of_eq (in_units h)) (mul-le-mul_right (u * u) (midpoint_at_most N q h near (nearest-at_least N q h near l) l)))
  lower_is_farther_lem Z (inr (z, e)) b =
      subst (λ (x : ℕ). (x + q * u) * (x + q * u) < 4 * N * (u * u)) (sym e)
      (subst (λ (x : ℕ). x < 4 * N * (u * u)) (sym (in_units z)) (mul-lt-mul_of_pos_right (midpoint_below N q z near (lt_of_mul-lt-mul_right u (subst (λ (x : ℕ). x < q * u) e b))) (mul-pos U U)))

  pub higher_is_farther_lem : (Z : ℕ) → Placed h u Z → q * u < Z → 4 * N * (u * u) < (Z + q * u) * (Z + q * u)
  higher_is_farther_lem Z (inl k) b = absurd (not-le_of_lt (lt_of_lt_of_le k (mul-le-mul_right u (nearest-at_least N q h near l))) (le_of_lt b))
  higher_is_farther_lem Z (inr (z, e)) b =
      subst (λ (x : ℕ). 4 * N * (u * u) < (x + q * u) * (x + q * u)) (sym e)
      (subst (λ (x : ℕ). 4 * N * (u * u) < x) (sym (in_units z)) (mul-lt-mul_of_pos_right (midpoint_above N q z near (lt_of_mul-lt-mul_right u (subst (λ (x : ℕ). q * u < x) e b))) (mul-pos U U)))
