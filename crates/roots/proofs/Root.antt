-- Laws of `root`: its square is at most the number, the next square is above it, and no other number is so. Assumes nothing.
use Rattle.arithmetic.proofs.Kit.{◌≡◌, refl, sym, ap, ◌∙◌, subst, ℕ, zero, suc, ◌*◌, ◌/◌, ◌^◌, ◌≤◌, ◌<◌, zero-le, le_trans, le_of_eq, le_antisymm, le_of_suc-le-suc, lt_of_lt_of_le, lt_of_not-le, not-le_of_lt, lt-suc_self, mul-mul-mul_comm, mul-le-mul, mul-pos, pow-suc, pow-le-pow_left, lt_of_mul-lt-mul_right, le_of_mul-le-mul_right, div-mul-le_self, div-lt_iff_lt-mul, arith, Bool, true, false, not, cond, T, leb, leb→le, nleb→lt, lit≤, pow-add, pow_pos, size, size-lt}
use Rattle.std.proofs.Common.{two-mul}
use Rattle.roots.specs.Root.{root, root_in}

-- r is the floor of the square root of n
abbrev pub IsRoot : ℕ → ℕ → Type 0
IsRoot n r = (r * r ≤ n) × (n < suc r * suc r)

-- ---- the definition's step: with t for the root of n / 4, the root of n is 2 * t or one more

doubled-le : (n t : ℕ) → t * t ≤ n / 4 → 2 * t * (2 * t) ≤ n
doubled-le n t h = subst (λ (x : ℕ). x ≤ n) (sym (mul-mul-mul_comm 2 t 2 t)) (omega arith)

twice-suc : (t : ℕ) → suc (suc (2 * t)) ≡ 2 * suc t
twice-suc t = omega arith

doubled_gt : (n t : ℕ) → n / 4 < suc t * suc t → n < suc (suc (2 * t)) * suc (suc (2 * t))
doubled_gt n t h = subst (λ (x : ℕ). n < x * x) (sym (twice-suc t)) (subst (λ (x : ℕ). n < x) (sym (mul-mul-mul_comm 2 (suc t) 2 (suc t))) (omega arith))

pub even_root : (n t : ℕ) → IsRoot (n / 4) t → n < suc (2 * t) * suc (2 * t) → IsRoot n (2 * t)
even_root n t h g = (doubled-le n t h.0, g)

pub odd_root : (n t : ℕ) → IsRoot (n / 4) t → suc (2 * t) * suc (2 * t) ≤ n → IsRoot n (suc (2 * t))
odd_root n t h l = (l, doubled_gt n t h.1)

either-root : (n t : ℕ) → IsRoot (n / 4) t → IsRoot n (cond (leb (suc (2 * t) * suc (2 * t)) n) (suc (2 * t)) (2 * t))
either-root n t h = go (leb (suc (2 * t) * suc (2 * t)) n) (leb→le (suc (2 * t) * suc (2 * t)) n) (nleb→lt (suc (2 * t) * suc (2 * t)) n)
  where
    go : (b : Bool) → (T b → suc (2 * t) * suc (2 * t) ≤ n) → (T (not b) → n < suc (2 * t) * suc (2 * t)) → IsRoot n (cond b (suc (2 * t)) (2 * t))
    go true l g = odd_root n t h (l tt)
    go false l g = even_root n t h (g tt)

root_in-is : (k n : ℕ) → n < 4 ^ k → IsRoot n (root_in k n)
unfolding root_in
root_in-is zero n h = (zero-le, h)
root_in-is (suc k) n h = either-root n (root_in k (n / 4)) (root_in-is k (n / 4) ((div-lt_iff_lt-mul (lit≤ tt)).1 (subst (λ (x : ℕ). n < x) (pow-suc 4 k) h)))

root_is : (n : ℕ) → IsRoot n (root n)
unfolding root
root_is n = root_in-is (size n) n (lt_of_lt_of_le (size-lt n) (pow-le-pow_left (lit≤ tt) (size n)))

pub of-root : (n r : ℕ) → r ≡ root n → IsRoot n r
of-root n r e = subst (λ (x : ℕ). IsRoot n x) (sym e) (root_is n)

pub root-le : (n : ℕ) → root n * root n ≤ n
root-le n = (root_is n).0

pub root_gt : (n : ℕ) → n < suc (root n) * suc (root n)
root_gt n = (root_is n).1

-- ---- no other number is the root

pub roots-le : (n r s : ℕ) → r * r ≤ n → n < suc s * suc s → r ≤ s
roots-le n r s h g = le_of_suc-le-suc (lt_of_not-le (λ (k : suc s ≤ r). not-le_of_lt g (le_trans (mul-le-mul k k) h)))

pub root_unique : (n r : ℕ) → r * r ≤ n → n < suc r * suc r → r ≡ root n
root_unique n r h g = le_antisymm (roots-le n r (root n) h (root_gt n)) (roots-le n (root n) r (root-le n) g)

pub is-root : (n r : ℕ) → IsRoot n r → r ≡ root n
is-root n r h = root_unique n r h.0 h.1

pub root_mono : {m n : ℕ} → m ≤ n → root m ≤ root n
root_mono {m} {n} h = roots-le n (root m) (root n) (le_trans (root-le m) h) (root_gt n)

-- ---- the root of n times the square of c, divided by c

scaled-by : (n c : ℕ) → zero < c → root (n * (c * c)) / c ≡ root n
scaled-by n c hc =
    let r : ℕ = root (n * (c * c)) in
    let q : ℕ = r / c in
    let squared : (x : ℕ) → x * c * (x * c) ≡ x * x * (c * c) = λ x. mul-mul-mul_comm x c x c in
    let above : r < suc q * c = (div-lt_iff_lt-mul hc).0 (lt-suc_self q) in
    root_unique n q
    (le_of_mul-le-mul_right (le_trans (le_of_eq (sym (squared q))) (le_trans (mul-le-mul (div-mul-le_self r c) (div-mul-le_self r c)) (root-le (n * (c * c))))) (mul-pos hc hc))
    (lt_of_mul-lt-mul_right (c * c) (lt_of_lt_of_le (root_gt (n * (c * c))) (le_trans (mul-le-mul above above) (le_of_eq (squared (suc q))))))

pub four-pow : (j : ℕ) → 4 ^ j ≡ 2 ^ j * 2 ^ j
four-pow zero = refl
four-pow (suc j) = pow-suc 4 j ∙ ap (λ (x : ℕ). x * 4) (four-pow j) ∙ mul-mul-mul_comm (2 ^ j) (2 ^ j) 2 2 ∙ ap (λ (x : ℕ). x * x) (sym (pow-suc 2 j))

pub root-shifted : (n j : ℕ) → root (n * 2 ^ (2 * j)) / 2 ^ j ≡ root n
root-shifted n j = ap (λ (x : ℕ). root (n * 2 ^ x) / 2 ^ j) (two-mul j) ∙ ap (λ (x : ℕ). root (n * x) / 2 ^ j) (pow-add 2 j j) ∙ scaled-by n (2 ^ j) (pow_pos j)
