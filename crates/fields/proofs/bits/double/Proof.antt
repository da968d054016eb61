-- `fields::bits::double` meets its contract: what a NaN's pattern stands for is the one NaN, which 0 / 0 is too.
-- Assumes nothing.
use Rattle.fields.proofs.Kit.{◌≡◌, refl, sym, subst, ◌∙◌, Bool, true, not, true≢false, rules, T, Float, nan, inf, fin, binary64, of_bits, is_nan, div}
use lib.Ieee.Bits.{nan_bits_is}
use Rattle.fields.proofs.bits.double.Statement.{statement}
use Rattle.fields.proofs.bits.double.Tie as tie

is_nan_lem : (x : Float) → is_nan x ≡ true → x ≡ nan
unfolding is_nan
is_nan_lem nan e = refl
is_nan_lem (inf s) e = absurd (true≢false (sym e))
is_nan_lem (fin s m d) e = absurd (true≢false (sym e))

float_from_bits_result : tie.Need-float_from_bits-result
float_from_bits_result c =
    let bits = c.args.bits in
    subst (λ (b : Bool). T (not b)) (sym (nan_bits_is binary64 bits ∙ sym c.is_nan_pattern.ensures ∙ c.if-is_nan_pattern.false)) tt

returns : tie.Need-returns-then-is_nan_pattern
unfolding div of_bits
returns c = sym (is_nan_lem (of_bits binary64 c.args.bits) (sym c.is_nan_pattern.ensures ∙ c.if-is_nan_pattern.true))

pub double_spec : {M : Type 1} → statement M
double_spec = tie.close (tie.spec (λ c κs. search rules)
    float_from_bits_result
    returns
    (λ c. search rules))
