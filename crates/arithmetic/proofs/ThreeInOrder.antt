-- The order of the doubles that are not NaN is total: each has its place among the whole numbers, one comes before another exactly where its place is lower, and
-- two with one place are the same. Assumes nothing.
use Rattle.arithmetic.proofs.Kit.{◌≡◌, refl, sym, ap, ap₂, subst, ◌∙◌, Bool, true, false, not, ◌&&◌, ◌||◌, true≢false, ℕ, zero, suc, ◌+◌, ◌-◌, ◌*◌, ◌^◌, ◌≤◌, ◌<◌, zero-mul, zero-div, mul_assoc, mul_comm, mul_right_comm, add-mul, mul-pos, le_of_lt, le_of_eq, arith, lt-ltb, le-ltb, eq-eqb, ne_eqb, ℤ, T, ltb, eqb, pow_pos, Float, nan, inf, fin, binary64, up, down, lt, fits, is_nan, down_pos}
use mathlib.Core.Bool.{and-false, or-false}
use Rattle.std.proofs.Common.{lt_irrefl}
use lib.Ieee.{below}
use Rattle.arithmetic.specs.Nearest.{units_of}
use Rattle.arithmetic.proofs.Order.{units-exact, same-double}
use Rattle.arithmetic.proofs.CommonDenominator.{ltb-alike, ltb-scaled}
use Rattle.arithmetic.proofs.Units.{units-below, units_pos}
use Rattle.arithmetic.specs.Middle.{is_minus_zero, is_plus_zero, precedes}

-- a double that is not NaN
pub record IsNumber (x : Float) : Type 0 where
  pub double : T (fits binary64 x)
  pub number : is_nan x ≡ false

-- ---- two signed counts of units, over one denominator or another
same-below : (k d a b u v : ℕ) (s t : Bool) → 0 < k → 0 < d → a * k ≡ u * d → b * k ≡ v * d → below s a t b ≡ below s u t v
same-below k d a b u v false false K D p q = ltb-scaled k d a b u v K D p q
same-below k d a b u v false true K D p q = refl
same-below k d a b u v true false K D p q = ltb-scaled k d 0 (a + b) 0 (u + v) K D (zero-mul k ∙ sym (zero-mul d)) (add-mul a b k ∙ ap₂ (λ (x y : ℕ). x + y) p q ∙ sym (add-mul u v d))
same-below k d a b u v true true K D p q = ltb-scaled k d b a v u K D q p

-- ---- the place of ±u, for a u up to the greatest, g: minus zero at g, and plus zero next to it
abbrev placed : ℕ → Bool → ℕ → ℕ
placed g true u = g - u
placed g false u = suc g + u

-- ±u against ±v, minus zero before plus zero
abbrev ahead : Bool → ℕ → Bool → ℕ → Bool
ahead s u t v = below s u t v || ((s && eqb u 0) && (not t && eqb v 0))

crossing : (u v : ℕ) → (ltb 0 (u + v) || (eqb u 0 && eqb v 0)) ≡ true
crossing zero zero = refl
crossing zero (suc v) = ap (λ (b : Bool). b || (eqb 0 0 && eqb (suc v) 0)) (lt-ltb 0 (0 + suc v) (omega arith))
crossing (suc u) v = ap (λ (b : Bool). b || (eqb (suc u) 0 && eqb v 0)) (lt-ltb 0 (suc u + v) (omega arith))

ahead-is : (g : ℕ) (s t : Bool) (u v : ℕ) → u ≤ g → v ≤ g → ahead s u t v ≡ ltb (placed g s u) (placed g t v)
ahead-is g false false u v hu hv = or-false (ltb u v) ∙ ltb-alike u v (suc g + u) (suc g + v) (λ h. omega arith) (λ h. omega arith)
ahead-is g false true u v hu hv = sym (le-ltb (suc g + u) (g - v) (omega arith))
ahead-is g true false u v hu hv = crossing u v ∙ sym (lt-ltb (g - u) (suc g + v) (omega arith))
ahead-is g true true u v hu hv = ap (λ (b : Bool). ltb v u || b) (and-false (eqb u 0)) ∙ or-false (ltb v u) ∙ ltb-alike v u (g - u) (g - v) (λ h. omega arith) (λ h. omega arith)

-- ---- the place of a double: finite ones by their count of units of 2 ^ -1074, and the infinities past them
abbrev greatest : ℕ
greatest = 2 ^ 2098

abbrev size_of : Float → ℕ
size_of nan = 0
size_of (inf s) = greatest
size_of (fin s m e) = units_of (fin s m e)

abbrev is_negative : Float → Bool
is_negative nan = false
is_negative (inf s) = s
is_negative (fin s m e) = s

abbrev pub place : Float → ℕ
place x = placed greatest (is_negative x) (size_of x)

no_units : (s : Bool) (e : ℤ) → units_of (fin s 0 e) ≡ 0
no_units s e = rw (zero-mul (up e)) (zero-div (down e))

size_below : (s : Bool) (m : ℕ) (e : ℤ) → T (fits binary64 (fin s m e)) → units_of (fin s m e) < greatest
size_below s zero e h = rw (no_units s e) (pow_pos 2098)
size_below s (suc m) e h = units-below s m e h

-- ---- the order by places
minus-by-units : (s : Bool) (m : ℕ) (e : ℤ) → T (fits binary64 (fin s m e)) → is_minus_zero (fin s m e) ≡ (s && eqb (units_of (fin s m e)) 0)
unfolding is_minus_zero
minus-by-units true zero e h = sym (eq-eqb (units_of (fin true 0 e)) 0 (no_units true e))
minus-by-units false zero e h = refl
minus-by-units s (suc m) e h = sym (and-false s) ∙ ap (λ (b : Bool). s && b) (sym (ne_eqb (units_of (fin s (suc m) e)) 0 (λ z. omega (arith, units_pos s m e h))))

plus-by-units : (s : Bool) (m : ℕ) (e : ℤ) → T (fits binary64 (fin s m e)) → is_plus_zero (fin s m e) ≡ (not s && eqb (units_of (fin s m e)) 0)
unfolding is_plus_zero
plus-by-units true zero e h = refl
plus-by-units false zero e h = sym (eq-eqb (units_of (fin false 0 e)) 0 (no_units false e))
plus-by-units s (suc m) e h = sym (and-false (not s)) ∙ ap (λ (b : Bool). not s && b) (sym (ne_eqb (units_of (fin s (suc m) e)) 0 (λ z. omega (arith, units_pos s m e h))))

-- what `lt` compares, k being the other double's denominator
compared : (s : Bool) (m k : ℕ) (e : ℤ) → T (fits binary64 (fin s m e)) → m * up e * k * 2 ^ 1074 ≡ units_of (fin s m e) * (down e * k)
compared s m k e h = mul_right_comm (m * up e) k (2 ^ 1074) ∙ ap (λ (x : ℕ). x * k) (units-exact s m e h) ∙ mul_assoc (units_of (fin s m e)) (down e) k

finite : (s t : Bool) (m n : ℕ) (e d : ℤ) → T (fits binary64 (fin s m e)) → T (fits binary64 (fin t n d)) → precedes (fin s m e) (fin t n d) ≡ ltb (place (fin s m e)) (place (fin t n d))
unfolding precedes lt
finite s t m n e d p q =
    let u = units_of (fin s m e) in
    let v = units_of (fin t n d) in
    let other : n * up d * down e * 2 ^ 1074 ≡ v * (down e * down d) = compared t n (down e) d q ∙ ap (λ (k : ℕ). v * k) (mul_comm (down d) (down e)) in
    ap₂ (λ (a b : Bool). a || b)
    (same-below (2 ^ 1074) (down e * down d) (m * up e * down d) (n * up d * down e) u v s t (pow_pos 1074) (mul-pos (down_pos e) (down_pos d)) (compared s m (down d) e p) other)
    (ap₂ (λ (a b : Bool). a && b) (minus-by-units s m e p) (plus-by-units t n d q))
    ∙ ahead-is greatest s t u v (le_of_lt (size_below s m e p)) (le_of_lt (size_below t n d q))

-- an infinity against any other double
top-is : (g : ℕ) (s t : Bool) (v : ℕ) → v < g → s ≡ ltb (placed g s g) (placed g t v)
top-is g false true v h = sym (le-ltb (suc g + g) (g - v) (omega arith))
top-is g false false v h = sym (le-ltb (suc g + g) (suc g + v) (omega arith))
top-is g true true v h = sym (lt-ltb (g - g) (g - v) (omega arith))
top-is g true false v h = sym (lt-ltb (g - g) (suc g + v) (omega arith))

under-is : (g : ℕ) (s t : Bool) (u : ℕ) → u < g → not t ≡ ltb (placed g s u) (placed g t g)
under-is g true true u h = sym (le-ltb (g - u) (g - g) (omega arith))
under-is g true false u h = sym (lt-ltb (g - u) (suc g + g) (omega arith))
under-is g false true u h = sym (le-ltb (suc g + u) (g - g) (omega arith))
under-is g false false u h = sym (lt-ltb (suc g + u) (suc g + g) (omega arith))

ends : (g : ℕ) (s t : Bool) → 0 < g → (s && not t) ≡ ltb (placed g s g) (placed g t g)
ends g true true h = sym (le-ltb (g - g) (g - g) (omega arith))
ends g true false h = sym (lt-ltb (g - g) (suc g + g) (omega arith))
ends g false true h = sym (le-ltb (suc g + g) (g - g) (omega arith))
ends g false false h = sym (le-ltb (suc g + g) (suc g + g) (omega arith))

pub precedes-is : (x y : Float) → IsNumber x → IsNumber y → precedes x y ≡ ltb (place x) (place y)
unfolding precedes lt is_minus_zero is_plus_zero is_nan
precedes-is nan y p q = absurd (true≢false p.number)
precedes-is (inf s) nan p q = absurd (true≢false q.number)
precedes-is (inf s) (inf t) p q = or-false (s && not t) ∙ ends greatest s t (pow_pos 2098)
precedes-is (inf s) (fin t n d) p q = or-false s ∙ top-is greatest s t (units_of (fin t n d)) (size_below t n d q.double)
precedes-is (fin s m e) nan p q = absurd (true≢false q.number)
precedes-is (fin s m e) (inf t) p q =
    ap (λ (b : Bool). not t || b) (and-false (is_minus_zero (fin s m e))) ∙ or-false (not t) ∙ under-is greatest s t (units_of (fin s m e)) (size_below s m e p.double)
precedes-is (fin s m e) (fin t n d) p q = finite s t m n e d p.double q.double

-- ---- two doubles with one place are the same
apart : (g : ℕ) (s t : Bool) (u v : ℕ) → u ≤ g → v ≤ g → placed g s u ≡ placed g t v → (s ≡ t) × (u ≡ v)
apart g true true u v hu hv e = (refl, omega arith)
apart g true false u v hu hv e = absurd (omega arith)
apart g false true u v hu hv e = absurd (omega arith)
apart g false false u v hu hv e = (refl, omega arith)

pub same_place : (x y : Float) → IsNumber x → IsNumber y → place x ≡ place y → x ≡ y
unfolding is_nan
same_place nan y p q h = absurd (true≢false p.number)
same_place (inf s) nan p q h = absurd (true≢false q.number)
same_place (inf s) (inf t) p q h = ap inf (apart greatest s t greatest greatest (le_of_eq refl) (le_of_eq refl) h).0
same_place (inf s) (fin t n d) p q h =
    let small = size_below t n d q.double in
    absurd (lt_irrefl greatest (subst (λ (k : ℕ). k < greatest) (sym (apart greatest s t greatest (units_of (fin t n d)) (le_of_eq refl) (le_of_lt small) h).1) small))
same_place (fin s m e) nan p q h = absurd (true≢false q.number)
same_place (fin s m e) (inf t) p q h =
    let small = size_below s m e p.double in
    absurd (lt_irrefl greatest (subst (λ (k : ℕ). k < greatest) (apart greatest s t (units_of (fin s m e)) greatest (le_of_lt small) (le_of_eq refl) h).1 small))
same_place (fin s m e) (fin t n d) p q h =
    let same = apart greatest s t (units_of (fin s m e)) (units_of (fin t n d)) (le_of_lt (size_below s m e p.double)) (le_of_lt (size_below t n d q.double)) h in
    same-double s m n e d p.double (subst (λ (b : Bool). T (fits binary64 (fin b n d))) (sym same.0) q.double) same.1 ∙ ap (λ (b : Bool). fin b n d) same.0
