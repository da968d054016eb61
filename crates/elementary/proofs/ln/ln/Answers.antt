-- What `take_apart` answers decides which clause of the definition holds. Assumes nothing.
use Rattle.arithmetic.proofs.Kit.{◌≡◌, refl, sym, ap, ◌∙◌, Bool, true, false, cond, Float, nan, inf, of_bits, nan_bits, div, odd}
use Rattle.arithmetic.specs.declared.double.Parts.{Parts}
use Rattle.arithmetic.specs.declared.double.Parts.TheVariants.{NotANumber, Infinite, Zero, Finite}
use Rattle.arithmetic.specs.Parts.{TakenApart, from_parts, Within}
use Rattle.elementary.specs.Ln.{ln_positive, ln}
use Rattle.arithmetic.specs.Places.{places}
use Rattle.arithmetic.proofs.Parts.{told, finite-of-parts}
use Rattle.elementary.proofs.ln.ln.Goals as goal

-- the logarithm of a double by its parts
abbrev ln_of : Parts → Float
ln_of NotANumber = nan
ln_of (Infinite s) = cond s nan (inf false)
ln_of (Zero s) = inf true
ln_of (Finite s q k) = cond s nan (ln_positive places (odd 53 false q k 1074))

ln_of_parts : (p : Parts) → Within p → ln_of p ≡ ln places (from_parts p)
unfolding ln
ln_of_parts NotANumber w = refl
ln_of_parts (Infinite true) w = refl
ln_of_parts (Infinite false) w = refl
ln_of_parts (Zero s) w = refl
ln_of_parts (Finite true q k) w = ap (ln places) (sym (finite-of-parts true q k w.positive).2)
ln_of_parts (Finite false q k) w = let f = (finite-of-parts false q k w.positive).2 in ap (ln_positive places) f ∙ ap (ln places) (sym f)

-- of x, where `take_apart` answers p
ln_is : {x : Float} {r p : Parts} → TakenApart x r → r ≡ p → ln_of p ≡ ln places x
ln_is {p = p} apart e = ln_of_parts p (told apart e).within ∙ ap (ln places) (told apart e).same

unchanged : {x : Float} {r p : Parts} → TakenApart x r → r ≡ p → from_parts p ≡ ln_of p → x ≡ ln places x
unchanged apart e same = sym (told apart e).same ∙ same ∙ ln_is apart e

pub float_from_bits-result : goal.float_from_bits-result
unfolding nan_bits
float_from_bits-result c = tt

pub returns-in-NotANumber : goal.returns-in-NotANumber
returns-in-NotANumber c = unchanged c.take_apart.ensures.apart c.in-NotANumber.is refl

pub returns-in-Infinite-false : goal.returns-in-Infinite-false
returns-in-Infinite-false c =
    let arm = c.in-Infinite-false in
    unchanged c.take_apart.ensures.apart (arm.is ∙ ap (λ (s : Bool). Infinite s) arm.field-0-test) refl

pub returns-in-Infinite-true : goal.returns-in-Infinite-true
unfolding div of_bits
returns-in-Infinite-true c =
    let arm = c.in-Infinite-true in
    ln_is c.take_apart.ensures.apart (arm.is ∙ ap (λ (s : Bool). Infinite s) arm.field-0-test)

pub returns-in-Zero : goal.returns-in-Zero
unfolding of_bits
returns-in-Zero c = ln_is c.take_apart.ensures.apart c.in-Zero.is

pub returns-in-Finite-true-default-default : goal.returns-in-Finite-true-default-default
unfolding div of_bits
returns-in-Finite-true-default-default c =
    let arm = c.in-Finite-true-default-default in
    ln_is c.take_apart.ensures.apart (arm.is ∙ ap (λ (s : Bool). Finite s arm.field-1 arm.field-2) arm.field-0-test)

pub returns-in-Finite-false-default-default : goal.returns-in-Finite-false-default-default
returns-in-Finite-false-default-default c =
    let arm = c.in-Finite-false-default-default in
    c.positive_ln.ensures ∙ ln_is c.take_apart.ensures.apart (arm.is ∙ ap (λ (s : Bool). Finite s arm.q arm.k) arm.field-0-test)
