-- Powers and exps are normal doubles and in their range, by their order and a few of them that are computed. Assumes nothing.
use Rattle.exact.proofs.Kit.{refl, false, ℕ, ◌*◌, ◌^◌, ℤ, pos, ◌*ℤ◌, ◌-ℤ◌, T, lit≤, Float, nan, inf, fin, binary64, up, down, span, climb, size, odd, units, round, of_fields, of_bits, lt, eq, le, neg, is_nan, fits, cond-fits, round-fits, floor_div, floor_mod, above, beneath, le-trans-double, log_bits, word_of_units, antilog_root, antilog, power, exp, log2e, floor_scaled, exp_top, exp_bottom, exp_within, power-rises, power-fits, Normal, Between, number}
use Rattle.arithmetic.specs.Decimals.{decimal}
use Rattle.roots.specs.Root.{root, root_in}
use Rattle.elementary.proofs.ExpRises.{exp-rises}
use Rattle.exact.proofs.Ranges.{tracks-itself}
use Rattle.exact.proofs.Above.{normal-of}
use Rattle.exact.proofs.HalfPower.{halves}

-- ---- powers to j halves
-- the power of 0.5 is not too small, and that of 1 not too large
abbrev pub Moderate : ℕ → Type 0
Moderate j = T (le (decimal "0.001") (power 60 (halves j) (decimal "0.5"))) × T (le (power 60 (halves j) (decimal "1")) (decimal "2"))

pub moderate : Moderate 3 × Moderate 6 × Moderate 7 × Moderate 8 × Moderate 15
unfolding power antilog antilog_root root root_in word_of_units log_bits round units size span climb odd of_fields of_bits le lt eq
moderate = ((tt, tt), (tt, tt), (tt, tt), (tt, tt), (tt, tt))

pub power-normal : (j : ℕ) → Moderate j → (x : Float) → T (fits binary64 x) → T (le (decimal "0.5") x) → T (le x (decimal "1")) → Normal (power 60 (halves j) x)
unfolding above beneath of_bits fits le lt eq
power-normal j m x f low high =
    let r : Float = power 60 (halves j) x in
    let double : T (fits binary64 r) = power-fits 60 (halves j) x in
    let rises = power-rises 60 (halves j) refl in
    let low' : T (le (decimal "0.001") r) = le-trans-double (decimal "0.001") (power 60 (halves j) (decimal "0.5")) r tt (power-fits 60 (halves j) (decimal "0.5")) double m.0 (rises (decimal "0.5") x tt f tt low) in
    let high' : T (le r (decimal "2")) = le-trans-double r (power 60 (halves j) (decimal "1")) (decimal "2") double (power-fits 60 (halves j) (decimal "1")) tt (rises x (decimal "1") f tt (le-trans-double (fin false 0 (pos 0)) (decimal "0.5") x tt tt f tt low) high) m.1 in
    normal-of r (number r) (tracks-itself (decimal "0.001") (decimal "2") r tt tt tt tt (record { double = double; low = low'; high = high' })) refl (lit≤ tt)

-- ---- exp
antilog-fits : (p : ℕ) (P : ℤ) → T (fits binary64 (antilog p P))
unfolding antilog
antilog-fits p P = let e : ℤ = floor_div P (2 ^ p) -ℤ pos 62 in round-fits binary64 false (antilog_root p (floor_mod P (2 ^ p)) * up e) (down e)

pub exp-fits : (p : ℕ) (x : Float) → T (fits binary64 (exp p x))
unfolding exp fits
exp-fits p x =
    cond-fits binary64 (is_nan x) nan _ tt (cond-fits binary64 (le exp_top x) (inf false) _ tt (cond-fits binary64 (le x exp_bottom) (fin false 0 (pos 0)) (exp_within p x) tt (antilog-fits p (floor_div (floor_scaled p x *ℤ pos log2e) (2 ^ 62)))))

cold_exp : T (le (decimal "1e-11") (exp 60 (decimal "-24")))
unfolding exp antilog antilog_root root root_in round units size span climb odd of_fields of_bits le lt eq is_nan neg
cold_exp = tt

pub exp-between : (top ratio x : Float) → T (fits binary64 top) → T (fits binary64 ratio) → T (fits binary64 x) → T (le (decimal "-24") x) → T (le x top) → T (le (exp 60 top) ratio) → Between (decimal "1e-11") ratio (exp 60 x)
unfolding of_bits fits
exp-between top ratio x ft fr f low high value =
    record {
      double = exp-fits 60 x;
      low = le-trans-double (decimal "1e-11") (exp 60 (decimal "-24")) (exp 60 x) tt (exp-fits 60 (decimal "-24")) (exp-fits 60 x) cold_exp (exp-rises 60 (decimal "-24") x tt f low);
      high = le-trans-double (exp 60 x) (exp 60 top) ratio (exp-fits 60 x) (exp-fits 60 top) fr (exp-rises 60 x top f ft high) value;
    }
