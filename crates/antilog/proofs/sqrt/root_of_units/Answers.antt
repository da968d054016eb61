-- Its d, n and r are the definition's, and no shift or sum leaves the word.
use Rattle.arithmetic.proofs.Kit.{◌≡◌, refl, sym, ap, ap₂, ◌∙◌, subst, Bool, true, false, cond, ℕ, suc, ◌+◌, ◌-◌, ◌*◌, ◌/◌, ◌%◌, ◌^◌, ◌≤◌, ◌<◌, le_trans, lt_of_lt_of_le, lt_of_not-le, not-le_of_lt, mul_assoc, mul-le-mul, mod-eq_of_lt, add-one, arith, count_leading_zeros, leb, le-leb, lt-leb, lit<, lit≤, ℤ, pos, negsuc, ◌-ℤ◌, pow-add, pow_mono, shl_lt, size, minus, size-lt, size-le, SFits, to_z, of_z, w64}
use lib.Signed.{mag}
use mir.Facts.{to_z_pos, to_z-of_z}
use Rattle.roots.specs.Root.{root}
use Rattle.roots.proofs.Root.{root-le}
use Rattle.arithmetic.specs.Nearest.{nearest_scaled}
use Rattle.arithmetic.specs.Parts.{Digits}
use Rattle.antilog.specs.Sqrt.{nearest_root}
use Rattle.arithmetic.proofs.Differences.{minus_is}
use Rattle.arithmetic.proofs.Size.{size-shifted, size-leading}
use Rattle.antilog.proofs.RootDigits.{digits_of, moved, moved-below, moved-is}
use Rattle.antilog.proofs.sqrt.root_of_units.Goals as goal
use Rattle.antilog.proofs.sqrt.root_of_units.Goals.{then-n-from, else-n-from}

-- ---- a difference, as the machine takes it and as the definition has it
minus_small : (a b H : ℕ) → a < H → b < H → mag (minus a b) < H
minus_small a b H h g = go (leb b a)
  where
    go : (t : Bool) → mag (cond t (pos (a - b)) (negsuc (b - suc a))) < H
    go true = omega arith
    go false = omega arith

module _ (d b : ℕ) (h : d < 2 ^ 63) (g : suc b < 2 ^ 63) where
  difference : to_z w64 d -ℤ pos (suc b) ≡ minus d (suc b)
  difference = ap (λ (z : ℤ). z -ℤ pos (suc b)) (to_z_pos w64 h) ∙ minus_is d (suc b)

  difference_fits : SFits w64 (to_z w64 d -ℤ pos (suc b))
  difference_fits = rw difference (record { sfits = minus_small d (suc b) (2 ^ 63) h g })

  exponent : to_z w64 (of_z w64 (to_z w64 d -ℤ pos (suc b))) ≡ minus d (suc b)
  exponent = to_z-of_z difference_fits ∙ difference

-- ---- r or r + 1, by the test of r * r + r
times_next : (r : ℕ) → r * (r + 1) ≡ r * r + r
times_next r = omega arith

rounded : (N r v : ℕ) (t : Bool) → r ≡ root N → v ≡ r * r + r → t ≡ leb N v → cond t r (r + 1) ≡ nearest_root N
rounded N r v t is half test =
    let test' : t ≡ leb N (root N * root N + root N) = test ∙ ap (leb N) (half ∙ ap (λ (x : ℕ). x * x + x) is) in
    let next : r + 1 ≡ suc (root N) = add-one r ∙ ap suc is in
    λ i. cond (test' i) (is i) (next i)

root_below : (N : ℕ) → N < 2 ^ 53 * 2 ^ 53 → root N < 2 ^ 53
root_below N h = lt_of_not-le (λ (g : 2 ^ 53 ≤ root N). not-le_of_lt h (le_trans (mul-le-mul g g) (root-le N)))

-- ---- the digits of q * 2 ^ k, and what is shifted
lengths : (q k : ℕ) → Digits q k → (count_leading_zeros 64 q + size q ≡ 64) × (size q ≤ 53) × (size (q * 2 ^ k) ≡ size q + k)
lengths q k w = (size-leading 64 q w.positive (lt_of_lt_of_le w.short (lit≤ tt)), size-le q 53 w.short, size-shifted q k w.positive)

-- the shift loses nothing
shifted : (q k d : ℕ) → Digits q k → digits_of (q * 2 ^ k) ≡ d → q * 2 ^ (k + 54 - 2 * d) % 2 ^ 64 * 2 ^ 52 ≡ moved (q * 2 ^ k)
shifted q k d w is =
    let l = lengths q k w in
    let i = k + 54 - 2 * d in
    let e : k + 106 - (d + d) ≡ i + 52 = omega arith in
    ap (λ (x : ℕ). x * 2 ^ 52) (mod-eq_of_lt (lt_of_lt_of_le (shl_lt (size q) i (size-lt q)) (pow_mono {i = size q + i} {j = 64} (omega arith))))
    ∙ mul_assoc q (2 ^ i) (2 ^ 52) ∙ ap (λ (x : ℕ). q * x) (sym (pow-add 2 i 52))
    ∙ sym (moved-is (q * 2 ^ k) q k w.short refl ∙ ap (λ (x : ℕ). q * 2 ^ (k + 106 - (x + x))) is ∙ ap (λ (x : ℕ). q * 2 ^ x) e)

-- ---- the rules
-- d and N of the code are the definition's
module _ (q k : ℕ) (w : Digits q k) where
  known : (count_leading_zeros 64 q + size q ≡ 64) × (size q ≤ 53) × (size (q * 2 ^ k) ≡ size q + k)
  known = lengths q k w

  abbrev d : ℕ
  d = (65 - count_leading_zeros 64 q + k) / 2

  digits_are : digits_of (q * 2 ^ k) ≡ d
  digits_are = omega (arith, known)

  abbrev N : ℕ
  N = moved (q * 2 ^ k)

  radicand : {n : ℕ} → n ≡ q * 2 ^ (k + 54 - 2 * d) % 2 ^ 64 → n * 2 ^ 52 ≡ N
  radicand is = ap (λ (x : ℕ). x * 2 ^ 52) is ∙ shifted q k d w digits_are

  root_fits : {r : ℕ} → r ≡ root N → r < 2 ^ 53
  root_fits is = rw is (root_below N (moved-below (q * 2 ^ k)))

pub overflow_sub-k : goal.overflow_sub-k
overflow_sub-k c = omega (arith, known c.args.q c.args.k c.requires)

pub overflow_add-r : goal.overflow_add-r
overflow_add-r c =
    let q = c.args.q in
    let k = c.args.k in
    record { fits = omega (arith, root_fits q k c.requires (c.floor_root-r.ensures ∙ ap root (radicand q k c.requires c.from-n.ensures))) }

pub returns : goal.returns
returns c =
    let q = c.args.q in
    let k = c.args.k in
    let r : ℕ = c.floor_root-r.result in
    let v : ℕ = c.from.result * c.from-2.result in
    let number : c.from-n.result * 2 ^ 52 ≡ N q k c.requires = radicand q k c.requires c.from-n.ensures in
    let is : r ≡ root (N q k c.requires) = c.floor_root-r.ensures ∙ ap root number in
    let half : v ≡ r * r + r = ap₂ (λ (x y : ℕ). x * y) c.from.ensures c.from-2.ensures ∙ times_next r in
    let picked = rounded (N q k c.requires) r v in
    let nearest : c.if-n-from.nearest ≡ nearest_root (N q k c.requires) =
    elim c.if-n-from.branch [
      | then-n-from w ↦ w.nearest-is ∙ picked true is half (sym (le-leb (N q k c.requires) v (subst (λ (x : ℕ). x ≤ v) number w.if-n-from.true)))
      | else-n-from w ↦ w.nearest-is ∙ picked false is half (sym (lt-leb (N q k c.requires) v (subst (λ (x : ℕ). v < x) number w.if-n-from.false)))
    ]
    in
    c.nearest_scaled.ensures
    ∙ ap₂ nearest_scaled nearest (exponent (d q k c.requires) 589 (omega (arith, c.requires.exponent)) (lit< tt) ∙ ap (λ (x : ℕ). minus x 590) (sym (digits_are q k c.requires)))
