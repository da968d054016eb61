-- What lies within the bounds is below 2^11 in size, and of the rest each kind of double has its answer. Assumes nothing.
use Rattle.arithmetic.proofs.Kit.{◌≡◌, refl, sym, ap, ap₂, ◌∙◌, subst, Bool, true, false, cond, true≢false, ℕ, suc, ◌*◌, ◌^◌, ◌<◌, le_trans, le_of_eq, lt_of_not-le, ℤ, pos, ◌*ℤ◌, T, lit≤, Float, nan, inf, fin, binary64, of_bits, neg, odd, fits, le, is_nan, is_true}
use Rattle.arithmetic.specs.declared.double.Parts.TheVariants.{Finite}
use Rattle.arithmetic.specs.declared.word.Word.{Word}
use Rattle.arithmetic.specs.Whole.{signed, floor_div, word_value}
use Rattle.arithmetic.specs.Nearest.{units_of}
use Rattle.arithmetic.specs.Parts.{TakenApart, Digits}
use Rattle.elementary.specs.Power.{infinity_or_zero}
use Rattle.antilog.specs.Antilog.{antilog}
use Rattle.elementary.specs.Exp.{log2e, exp_top, exp_bottom, exp_within, exp}
use Rattle.arithmetic.specs.Places.{places}
use Rattle.arithmetic.proofs.Integers.{pos_le, opposites}
use Rattle.arithmetic.proofs.Order.{le-of-count}
use Rattle.arithmetic.proofs.Parts.{told, finite-of-parts, units_of-parts, parts-fit}
use Rattle.arithmetic.proofs.Times.{word_value_lem}
use Rattle.elementary.proofs.exp.exp.Goals as goal

-- ---- the size of what lies within the bounds
within_bounds : (s : Bool) (q k : ℕ) → Digits q k → le exp_top (odd 53 s q k 1074) ≡ false → le (odd 53 s q k 1074) exp_bottom ≡ false → q * 2 ^ k < 2 ^ 1085
unfolding of_bits neg
within_bounds false q k d below above =
    let f = finite-of-parts false q k d.positive in
    let count : units_of (fin false (suc f.0) f.1) ≡ q * 2 ^ k = ap units_of (sym f.2) ∙ units_of-parts false q k in
    lt_of_not-le (λ h. true≢false (sym (is_true (le exp_top (odd 53 false q k 1074)) (subst (λ (x : Float). T (le exp_top x)) (sym f.2) (le-of-count false false 1 (suc f.0) (pos 10) f.1 (unfold fits in tt) (subst (λ (x : Float). T (fits binary64 x)) f.2 (parts-fit false q k d)) (pos_le (le_trans (lit≤ tt) (le_trans h (le_of_eq (sym count)))))))) ∙ below))
within_bounds true q k d below above =
    let f = finite-of-parts true q k d.positive in
    let count : units_of (fin true (suc f.0) f.1) ≡ q * 2 ^ k = ap units_of (sym f.2) ∙ units_of-parts true q k in
    lt_of_not-le (λ h. true≢false (sym (is_true (le (odd 53 true q k 1074) exp_bottom) (subst (λ (x : Float). T (le x exp_bottom)) (sym f.2) (le-of-count true true (suc f.0) 275 f.1 (pos 2) (subst (λ (x : Float). T (fits binary64 x)) f.2 (parts-fit true q k d)) (unfold fits in tt) (opposites {a = 1100 * 2 ^ 1074} (le_trans (lit≤ tt) (le_trans h (le_of_eq (sym count)))))))) ∙ above))

-- ---- the definition at a number, and its four answers
exp_number : (p : ℕ) (x : Float) → is_nan x ≡ false → cond (le exp_top x) (inf false) (cond (le x exp_bottom) (fin false 0 (pos 0)) (exp_within p x)) ≡ exp p x
unfolding exp
exp_number p x e = sym (ap (λ (t : Bool). cond t nan (cond (le exp_top x) (inf false) (cond (le x exp_bottom) (fin false 0 (pos 0)) (exp_within p x)))) e)

module _ {x : Float} {s : Bool} {q k : ℕ} (apart : TakenApart x (Finite s q k)) where
  number : is_nan x ≡ false
  unfolding is_nan
  number = ap is_nan (sym (sym (finite-of-parts s q k apart.within.positive).2 ∙ apart.same))

  at_top : le exp_top x ≡ true → inf false ≡ exp places x
  at_top e = ap (λ (t : Bool). cond t (inf false) (cond (le x exp_bottom) (fin false 0 (pos 0)) (exp_within places x))) (sym e) ∙ exp_number places x number

  at_bottom : le exp_top x ≡ false → le x exp_bottom ≡ true → fin false 0 (pos 0) ≡ exp places x
  at_bottom e d = ap₂ (λ (t u : Bool). cond t (inf false) (cond u (fin false 0 (pos 0)) (exp_within places x))) (sym e) (sym d) ∙ exp_number places x number

  between : le exp_top x ≡ false → le x exp_bottom ≡ false → antilog places (floor_div (floor_div (signed s (q * 2 ^ k * 2 ^ places)) (2 ^ 1074) *ℤ pos log2e) (2 ^ 62)) ≡ exp places x
  between e d =
      let f = (finite-of-parts s q k apart.within.positive).2 in
      ap (λ (n : ℕ). antilog places (floor_div (floor_div (signed s (n * 2 ^ places)) (2 ^ 1074) *ℤ pos log2e) (2 ^ 62))) (sym (units_of-parts s q k) ∙ ap units_of f)
      ∙ ap (exp_within places) (sym f ∙ apart.same)
      ∙ ap₂ (λ (t u : Bool). cond t (inf false) (cond u (fin false 0 (pos 0)) (exp_within places x))) (sym e) (sym d)
      ∙ exp_number places x number

  bounded : le exp_top x ≡ false → le x exp_bottom ≡ false → q * 2 ^ k < 2 ^ 1085
  bounded e d = within_bounds s q k apart.within (ap (le exp_top) apart.same ∙ e) (ap (λ (y : Float). le y exp_bottom) apart.same ∙ d)

exp_infinite : (s : Bool) → infinity_or_zero s ≡ exp places (inf s)
unfolding exp
exp_infinite true = refl
exp_infinite false = refl

exp_zero : (s : Bool) → of_bits binary64 0x3ff0000000000000 ≡ exp places (fin s 0 (pos 0))
unfolding exp
exp_zero true = refl
exp_zero false = refl

pub floor_word-requires : goal.floor_word-requires
floor_word-requires c = bounded (told c.take_apart.ensures.apart c.in-Finite.is) c.if-x.false c.if-x-2.false

pub returns-in-NotANumber : goal.returns-in-NotANumber
unfolding exp
returns-in-NotANumber c = let e = (told c.take_apart.ensures.apart c.in-NotANumber.is).same in sym e ∙ ap (exp places) e

pub returns-in-Infinite : goal.returns-in-Infinite
returns-in-Infinite c = c.infinity_or_zero.ensures ∙ exp_infinite _ ∙ ap (exp places) (told c.take_apart.ensures.apart c.in-Infinite.is).same

pub returns-in-Zero : goal.returns-in-Zero
returns-in-Zero c = exp_zero _ ∙ ap (exp places) (told c.take_apart.ensures.apart c.in-Zero.is).same

pub returns-in-Finite : goal.returns-in-Finite
returns-in-Finite c = c.infinity_or_zero-in-Finite.ensures ∙ at_top (told c.take_apart.ensures.apart c.in-Finite.is) c.if-x.true

pub returns-in-Finite-2 : goal.returns-in-Finite-2
returns-in-Finite-2 c = c.infinity_or_zero-in-Finite-2.ensures ∙ at_bottom (told c.take_apart.ensures.apart c.in-Finite.is) c.if-x.false c.if-x-2.true

pub returns-in-Finite-3 : goal.returns-in-Finite-3
returns-in-Finite-3 c =
    c.antilog.ensures
    ∙ ap (λ (w : Word). antilog places (word_value places w)) c.times.ensures
    ∙ ap (antilog places) (word_value_lem places (floor_div (word_value places c.floor_word.result *ℤ pos log2e) (2 ^ 62)))
    ∙ ap (λ (z : ℤ). antilog places (floor_div (z *ℤ pos log2e) (2 ^ 62))) (ap (word_value places) c.floor_word.ensures.0 ∙ word_value_lem places _)
    ∙ between (told c.take_apart.ensures.apart c.in-Finite.is) c.if-x.false c.if-x-2.false
