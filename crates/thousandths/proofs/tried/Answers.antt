use Rattle.std.proofs.Common.{◌≡◌, ◌∙◌, refl, ap, sym, rules, T, not, ℤ, w32, ℕ, Bool, true, false, cond, eqb, Some, None, Float}
use Rattle.arithmetic.proofs.Kit.{nan, inf, fin, finite, binary64, to_bits}
use Rattle.std.specs.Bool.{then_some}
use mir.Val.{SFits}
use Rattle.std.proofs.lemmas.Int.{to_z-of_z}
use lib.Ieee.{is_nan}
use Rattle.thousandths.specs.Thousandths.{thousandths, if_exact}
use Rattle.thousandths.proofs.Words.{fits-in_range}
use Rattle.thousandths.proofs.Laws.{double_of-count}
use Rattle.thousandths.proofs.tried.Goals as goal

-- a finite double is a number
number : (x : Float) → T (finite x) → T (not (is_nan x))
unfolding is_nan
number nan h = absurd h
number (inf s) h = tt
number (fin s m e) h = tt

pub returns-in_err-n : goal.returns-in_err-n
unfolding if_exact
returns-in_err-n c = c.from_residual.ensures ∙ ap (if_exact c.args.pattern) (sym c.in_err-n.was)

pub float_to_bits-double_of : goal.float_to_bits-double_of
float_to_bits-double_of c =
    let n : ℤ = c.in_ok-n.n in
    let fits : SFits w32 n = search rules in
    rw (c.double_of.ensures ∙ ap thousandths (to_z-of_z w32 n fits)) (number (thousandths n) (double_of-count.is_finite n (fits-in_range n fits)))

exact : (b : ℕ) (x : Float) (m n : ℤ) → x ≡ thousandths n → m ≡ n → then_some (eqb (to_bits binary64 x) b) m ≡ if_exact b (Some n)
unfolding if_exact
exact b x m n is same = rw (is, same) (go (eqb (to_bits binary64 (thousandths n)) b))
  where
    go : (t : Bool) → then_some t n ≡ cond t (Some n) None
    go true = refl
    go false = refl

pub returns : goal.returns
returns c =
    let n : ℤ = c.in_ok-n.n in
    let fits : SFits w32 n = search rules in
    let back = to_z-of_z w32 n fits in
    c.then_some.ensures
    ∙ exact c.args.pattern c.double_of.result _ n (c.double_of.ensures ∙ ap thousandths back) back
    ∙ ap (if_exact c.args.pattern) (sym c.in_ok-n.was)
