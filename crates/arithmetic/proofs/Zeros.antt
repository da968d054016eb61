-- A zero by its sign. Assumes nothing.
use Rattle.arithmetic.proofs.Kit.{◌≡◌, refl, ap, Bool, true, false, not, ◌&&◌, ◌||◌, ℕ, zero, suc, ◌*◌, zero-mul, zero-lt-suc, mul-pos, arith, ne_eqb, ℤ, eqb, Float, nan, inf, fin, up, down, eq, of_bits, up_pos}
use mathlib.Core.Bool.{beq}
use Rattle.std.specs.Float.{is_sign_negative}
use Rattle.arithmetic.specs.Decimals.{nought}
use Rattle.arithmetic.specs.Middle.{is_minus_zero, is_plus_zero}

equals_zero : (s : Bool) (e : ℤ) → eq (fin s 0 e) nought ≡ true
unfolding eq of_bits
equals_zero true e = rw (zero-mul (up e), zero-mul (down e))
equals_zero false e = rw (zero-mul (up e), zero-mul (down e))

differs_from_zero : (s : Bool) (m : ℕ) (e : ℤ) → eq (fin s (suc m) e) nought ≡ false
unfolding eq of_bits
differs_from_zero s m e =
    let a = suc m * up e * 1 in
    let b = 0 * down e in
    ap (λ (t : Bool). t && (beq s false || eqb a 0)) (ne_eqb a b (λ h. omega (arith, zero-mul (down e), mul-pos (zero-lt-suc m) (up_pos e))))

pub minus-zero : (x : Float) → (eq x nought && is_sign_negative x) ≡ is_minus_zero x
unfolding eq of_bits is_sign_negative is_minus_zero
minus-zero nan = refl
minus-zero (inf s) = refl
minus-zero (fin s zero e) = ap (λ (t : Bool). t && s) (equals_zero s e)
minus-zero (fin s (suc m) e) = ap (λ (t : Bool). t && s) (differs_from_zero s m e)

pub plus-zero : (x : Float) → (eq x nought && not (is_sign_negative x)) ≡ is_plus_zero x
unfolding eq of_bits is_sign_negative is_plus_zero
plus-zero nan = refl
plus-zero (inf s) = refl
plus-zero (fin s zero e) = ap (λ (t : Bool). t && not s) (equals_zero s e)
plus-zero (fin s (suc m) e) = ap (λ (t : Bool). t && not s) (differs_from_zero s m e)
