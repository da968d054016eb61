-- The power of what the parts stand for. Assumes nothing.
use Rattle.arithmetic.proofs.Kit.{◌≡◌, refl, sym, ap, ◌∙◌, Bool, cond, ℕ, ◌≤◌, ◌<◌, ltb, le→nltb, Float, nan, of_bits, div, is_false}
use Rattle.arithmetic.specs.declared.double.Parts.{Parts}
use Rattle.elementary.specs.Exponents.{exponent_at}
use Rattle.arithmetic.specs.Parts.{from_parts, TakenApart}
use Rattle.elementary.specs.Power.{power, power_at}
use Rattle.arithmetic.specs.Places.{places}
use Rattle.arithmetic.proofs.Parts.{told}
use Rattle.elementary.proofs.PowerCases.{in_table}
use Rattle.elementary.proofs.power.base_power.Goals as goal

no_exponent : (p i : ℕ) (x : Float) → 27 ≤ i → nan ≡ power_at p i x
unfolding power_at
no_exponent p i x h = sym (ap (λ (t : Bool). cond t (power p (exponent_at i) x) nan) (is_false (ltb i 27) (le→nltb i 27 h)))

of_nan : (p i : ℕ) → nan ≡ power p (exponent_at i) nan
unfolding power
of_nan p i = refl

-- the power of what the parts stand for is x's
answered : (i : ℕ) {x z : Float} {r s : Parts} → i < 27 → TakenApart x r → r ≡ s → z ≡ power places (exponent_at i) (from_parts s) → z ≡ power_at places i x
answered i {x} {z} few apart e made = made ∙ ap (power places (exponent_at i)) (told apart e).same ∙ in_table places i x few

pub returns-then-number-ge27 : goal.returns-then-number-ge27
unfolding div of_bits
returns-then-number-ge27 c = no_exponent places c.args.number c.args.x c.if-number-ge27.true

pub returns-in-NotANumber : goal.returns-in-NotANumber
returns-in-NotANumber c =
    let e = (told c.requires.apart c.in-NotANumber.is).same in
    answered c.args.number c.if-number-ge27.false c.requires.apart c.in-NotANumber.is (sym e ∙ of_nan places c.args.number)

pub returns-in-Infinite : goal.returns-in-Infinite
returns-in-Infinite c = answered c.args.number c.if-number-ge27.false c.requires.apart c.in-Infinite.is c.infinite_power.ensures

pub returns-in-Zero : goal.returns-in-Zero
returns-in-Zero c = answered c.args.number c.if-number-ge27.false c.requires.apart c.in-Zero.is c.zero_power.ensures

pub returns-in-Finite : goal.returns-in-Finite
returns-in-Finite c = answered c.args.number c.if-number-ge27.false c.requires.apart c.in-Finite.is c.finite_power.ensures
