-- What `take_apart` answers decides which clause of the definition holds. Assumes nothing.
use Rattle.arithmetic.proofs.Kit.{◌≡◌, refl, sym, ap, ◌∙◌, Bool, true, false, ℕ, ◌*◌, ◌^◌, Float}
use Rattle.std.proofs.Common.{Option, Some, None}
use Rattle.arithmetic.specs.declared.double.Parts.{Parts}
use Rattle.arithmetic.specs.declared.double.Parts.TheVariants.{NotANumber, Infinite, Zero, Finite}
use Rattle.arithmetic.specs.declared.word.Word.{Word}
use Rattle.arithmetic.specs.Whole.{as_word}
use Rattle.arithmetic.specs.Nearest.{units_of}
use Rattle.arithmetic.specs.Parts.{TakenApart, from_parts, Within}
use Rattle.antilog.specs.Log.{word_of_units, logarithm}
use Rattle.arithmetic.specs.Places.{places}
use Rattle.arithmetic.proofs.Parts.{told, finite-of-parts, units_of-parts}
use Rattle.elementary.proofs.log.log_word.Goals as goal

-- the log word of a double by its parts
abbrev word_of : Parts → Option Word
word_of NotANumber = None
word_of (Infinite s) = None
word_of (Zero s) = None
word_of (Finite true q k) = None
word_of (Finite false q k) = Some (as_word places (word_of_units places (q * 2 ^ k)))

word_of_parts : (p : Parts) → Within p → word_of p ≡ logarithm places (from_parts p)
unfolding logarithm
word_of_parts NotANumber w = refl
word_of_parts (Infinite s) w = refl
word_of_parts (Zero s) w = refl
word_of_parts (Finite true q k) w = ap (logarithm places) (sym (finite-of-parts true q k w.positive).2)
word_of_parts (Finite false q k) w =
    let f = (finite-of-parts false q k w.positive).2 in
    ap (λ (n : ℕ). Some (as_word places (word_of_units places n))) (sym (units_of-parts false q k) ∙ ap units_of f) ∙ ap (logarithm places) (sym f)

-- of x, where `take_apart` answers p
word_is : {x : Float} {r p : Parts} → TakenApart x r → r ≡ p → word_of p ≡ logarithm places x
word_is {p = p} apart e = word_of_parts p (told apart e).within ∙ ap (logarithm places) (told apart e).same

pub returns-in-Finite-false-default-default : goal.returns-in-Finite-false-default-default
returns-in-Finite-false-default-default c =
    let arm = c.in-Finite-false-default-default in
    ap Some c.log.ensures.0 ∙ word_is c.take_apart.ensures.apart (arm.is ∙ ap (λ (s : Bool). Finite s arm.q arm.k) arm.field-0-test)

pub returns-in-Finite-true-default-default : goal.returns-in-Finite-true-default-default
returns-in-Finite-true-default-default c =
    let arm = c.in-Finite-true-default-default in
    word_is c.take_apart.ensures.apart (arm.is ∙ ap (λ (s : Bool). Finite s arm.field-1 arm.field-2) arm.field-0-test)

pub returns-in-NotANumber : goal.returns-in-NotANumber
returns-in-NotANumber c = word_is c.take_apart.ensures.apart c.in-NotANumber.is

pub returns-in-Infinite : goal.returns-in-Infinite
returns-in-Infinite c = word_is c.take_apart.ensures.apart c.in-Infinite.is

pub returns-in-Zero : goal.returns-in-Zero
returns-in-Zero c = word_is c.take_apart.ensures.apart c.in-Zero.is
