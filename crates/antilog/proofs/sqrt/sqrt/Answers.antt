-- What `take_apart` answers decides which clause of the definition holds. Assumes nothing.
use Rattle.arithmetic.proofs.Kit.{◌≡◌, refl, sym, ap, ◌∙◌, Bool, true, false, cond, ℕ, ◌*◌, ◌^◌, pos, Float, nan, inf, fin, of_bits, div}
use Rattle.arithmetic.specs.declared.double.Parts.{Parts}
use Rattle.arithmetic.specs.declared.double.Parts.TheVariants.{NotANumber, Infinite, Zero, Finite}
use Rattle.arithmetic.specs.Nearest.{units_of}
use Rattle.arithmetic.specs.Parts.{TakenApart, from_parts, Within}
use Rattle.antilog.specs.Sqrt.{sqrt, sqrt_of_units}
use Rattle.arithmetic.proofs.Parts.{units_of-parts, finite-of-parts, told}
use Rattle.antilog.proofs.NearestRoot.{sqrt-of-finite}
use Rattle.antilog.proofs.sqrt.sqrt.Goals as goal

-- the root of a double by its parts
abbrev root_of : Parts → Float
root_of NotANumber = nan
root_of (Infinite s) = cond s nan (inf false)
root_of (Zero s) = fin s 0 (pos 0)
root_of (Finite s q k) = cond s nan (sqrt_of_units (q * 2 ^ k))

sqrt_of_parts : (p : Parts) → Within p → root_of p ≡ sqrt (from_parts p)
unfolding sqrt
sqrt_of_parts NotANumber w = refl
sqrt_of_parts (Infinite true) w = refl
sqrt_of_parts (Infinite false) w = refl
sqrt_of_parts (Zero s) w = refl
sqrt_of_parts (Finite s q k) w =
    let f = finite-of-parts s q k w.positive in
    sym (ap sqrt f.2 ∙ sqrt-of-finite s f.0 f.1 ∙ ap (λ (n : ℕ). cond s nan (sqrt_of_units n)) (ap units_of (sym f.2) ∙ units_of-parts s q k))

-- of x, where `take_apart` answers p
root_is : {x : Float} {r p : Parts} → TakenApart x r → r ≡ p → root_of p ≡ sqrt x
root_is {p = p} apart e = sqrt_of_parts p (told apart e).within ∙ ap sqrt (told apart e).same

unchanged : {x : Float} {r p : Parts} → TakenApart x r → r ≡ p → from_parts p ≡ root_of p → x ≡ sqrt x
unchanged apart e same = sym (told apart e).same ∙ same ∙ root_is apart e

pub returns-in-NotANumber : goal.returns-in-NotANumber
returns-in-NotANumber c = unchanged c.take_apart.ensures.apart c.in-NotANumber.is refl

pub returns-in-Infinite-false : goal.returns-in-Infinite-false
returns-in-Infinite-false c =
    let arm = c.in-Infinite-false in
    unchanged c.take_apart.ensures.apart (arm.is ∙ ap (λ (s : Bool). Infinite s) arm.field-0-test) refl

pub returns-in-Infinite-true : goal.returns-in-Infinite-true
unfolding div of_bits
returns-in-Infinite-true c =
    let arm = c.in-Infinite-true in
    root_is c.take_apart.ensures.apart (arm.is ∙ ap (λ (s : Bool). Infinite s) arm.field-0-test)

pub returns-in-Zero : goal.returns-in-Zero
returns-in-Zero c = unchanged c.take_apart.ensures.apart c.in-Zero.is refl

pub returns-in-Finite-true-default-default : goal.returns-in-Finite-true-default-default
unfolding div of_bits
returns-in-Finite-true-default-default c =
    let arm = c.in-Finite-true-default-default in
    root_is c.take_apart.ensures.apart (arm.is ∙ ap (λ (s : Bool). Finite s arm.field-1 arm.field-2) arm.field-0-test)

pub returns-in-Finite-false-default-default : goal.returns-in-Finite-false-default-default
returns-in-Finite-false-default-default c =
    let arm = c.in-Finite-false-default-default in
    c.root_of_units.ensures ∙ root_is c.take_apart.ensures.apart (arm.is ∙ ap (λ (s : Bool). Finite s arm.q arm.k) arm.field-0-test)
