-- What passes `is_one` is one double. Assumes nothing.
use Rattle.arithmetic.proofs.Kit.{◌≡◌, sym, subst, Bool, true, T, eqb, eqb→eq, Float, binary64, to_bits, fits, eq, and_r}
use Rattle.arithmetic.proofs.Pattern.{one-pattern}
use Rattle.air.specs.Moist.{is_one}

pub one_double : (x y : Float) → T (fits binary64 x) → T (fits binary64 y) → {r : Bool} → r ≡ is_one x y → r ≡ true → x ≡ y
unfolding is_one
one_double x y fx fy is t =
    let same : T (is_one x y) = subst T is (subst T (sym t) tt) in
    one-pattern x y fx fy (eqb→eq _ _ (and_r (eq x y) (eqb (to_bits binary64 x) (to_bits binary64 y)) same))
