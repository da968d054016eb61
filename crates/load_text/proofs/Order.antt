-- Doubles of counts keep the counts' order, so that a count in a range passes the tests of its value. Assumes nothing.
use Rattle.load_text.proofs.Kit.{◌≡◌, refl, Bool, true, false, not, suc, le_trans, arith, T, lit<, leb→le, le→leb, ℤ, pos, negsuc, ◌≤ℤ◌, Float, nan, inf, fin, binary64, fits, lt, le, finite, thousandths, CountBetween, InRange}
use Rattle.arithmetic.proofs.Integers.{times_mono}
use Rattle.arithmetic.proofs.Rounding.{ratio_mono}
use Rattle.arithmetic.proofs.Strict.{not_le-of-less, lt-le-trans}
use Rattle.arithmetic.specs.Doubles.{is_finite}
use Rattle.thousandths.proofs.Laws.{double_of-count, thousandths-fits}

is_false : (b : Bool) → (T b → ⊥) → b ≡ false
is_false true h = absurd (h tt)
is_false false h = refl

-- ---- counts between two counts
pub in_range_lem : (low high z : ℤ) → InRange low → InRange high → CountBetween low high z → InRange z
in_range_lem low (pos b) (pos n) l h between = le→leb n 2147483647 (le_trans (leb→le n b between.to.le) (leb→le b 2147483647 h))
in_range_lem low (negsuc b) (pos n) l h between = absurd between.to.le
in_range_lem (pos a) high (negsuc n) l h between = absurd between.from.le
in_range_lem (negsuc a) high (negsuc n) l h between = le→leb (suc n) 2147483648 (omega (arith, leb→le n a between.from.le, leb→le (suc a) 2147483648 l))

keeps-order : {a b : ℤ} → a ≤ℤ b → T (le (thousandths a) (thousandths b))
unfolding thousandths
keeps-order {a} {b} h = ratio_mono a b 1000 1000 (lit< tt) (lit< tt) (times_mono 1000 h)

-- ---- the tests
pub is_finite_lem : (z : ℤ) → InRange z → not (is_finite (thousandths z)) ≡ false
unfolding is_finite
is_finite_lem z h = go (thousandths z) (double_of-count.is_finite z h)
  where
    go : (x : Float) → T (finite x) → not (is_finite x) ≡ false
    go nan f = absurd f
    go (inf s) f = absurd f
    go (fin s m e) f = refl

-- x lies below the low end
pub not_down-to : (x : Float) (low z : ℤ) → T (fits binary64 x) → T (lt x (thousandths low)) → low ≤ℤ z → le (thousandths z) x ≡ false
not_down-to x low z f less h =
    is_false (le (thousandths z) x)
    (not_le-of-less x (thousandths z) (lt-le-trans x (thousandths low) (thousandths z) f (thousandths-fits low) (thousandths-fits z) less (keeps-order h)))

-- z lies from the low end up
pub not_below : (low z : ℤ) → low ≤ℤ z → lt (thousandths z) (thousandths low) ≡ false
not_below low z h = is_false (lt (thousandths z) (thousandths low)) (λ less. not_le-of-less (thousandths z) (thousandths low) less (keeps-order h))
