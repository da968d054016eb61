-- The quotient of two whole numbers that are doubles exactly is rounded once: it is the double nearest to their ratio. Assumes nothing.
use Rattle.arithmetic.proofs.Kit.{◌≡◌, sym, ap, ◌∙◌, subst, Bool, true, false, ℕ, zero, suc, ◌*◌, ◌^◌, ◌≤◌, ◌<◌, mul_assoc, mul_comm, mul-pos, zero-mul, arith, ℤ, pos, negsuc, Float, nan, inf, fin, binary64, up, down, round, div, of_int, down_pos, HasValue, round_same, mul-one}
use lib.Ieee.Back.{round_whole}
use lib.Dec.{eqb-suc-zero}
use lib.Signed.{mag}
use Rattle.arithmetic.specs.Nearest.{nearest_ratio}
use Rattle.arithmetic.proofs.Products.{unlike_plus}

-- x is ±n and y is d
divided : (s : Bool) (n d : ℕ) (x y : Float) → 0 < d → HasValue x s n 1 → HasValue y false d 1 → div binary64 x y ≡ round binary64 s n d
unfolding div
divided s n d nan y some h k = absurd h
divided s n d (inf t) y some h k = absurd h
divided s n d (fin t m e) nan some h k = absurd k
divided s n d (fin t m e) (inf v) some h k = absurd k
divided s n d (fin t m e) (fin v zero f) some h k = let none : d * down f ≡ 0 = sym k.1 ∙ ap (λ (x : ℕ). x * 1) (zero-mul (up f)) in absurd (omega (arith, none, mul-pos some (down_pos f)))
divided s n d (fin t m e) (fin v (suc q) f) some h k =
    let over : suc q * up f ≡ d * down f = sym (mul-one (suc q * up f)) ∙ k.1 in
    let size : m * up e ≡ n * down e = sym (mul-one (m * up e)) ∙ h.1 in
    let cross : m * up e * down f * d ≡ n * (suc q * up f * down e) =
    ap (λ (x : ℕ). x * down f * d) size
    ∙ mul_assoc (n * down e) (down f) d
    ∙ mul_assoc n (down e) (down f * d)
    ∙ ap (λ (x : ℕ). n * x) (mul_comm (down e) (down f * d) ∙ ap (λ (x : ℕ). x * down e) (mul_comm (down f) d ∙ sym over)) in
    rw (eqb-suc-zero q, k.0, unlike_plus t, h.0)
    (round_same binary64 s (m * up e * down f) (suc q * up f * down e) n d
    (subst (λ (x : ℕ). 0 < x * down e) (sym over) (mul-pos (mul-pos some (down_pos f)) (down_pos e))) some cross)

pub quotient : (z : ℤ) (d : ℕ) → mag z < 2 ^ 53 → 0 < d → d ≤ 2 ^ 53 → div binary64 (of_int binary64 z) (of_int binary64 (pos d)) ≡ nearest_ratio z d
unfolding of_int
quotient (pos n) d small some few = divided false n d (round binary64 false n 1) (round binary64 false d 1) some (round_whole binary64 false n (omega arith)) (round_whole binary64 false d few)
quotient (negsuc n) d small some few = divided true (suc n) d (round binary64 true (suc n) 1) (round binary64 false d 1) some (round_whole binary64 true (suc n) (omega arith)) (round_whole binary64 false d few)
