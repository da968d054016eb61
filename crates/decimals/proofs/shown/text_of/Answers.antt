-- Kind by kind of a double.
use Rattle.std.proofs.Common.{◌≡◌, ◌∙◌, sym, ap, Bool, ℕ, ◌+◌, ◌*◌, ◌/◌, ◌^◌, ◌≤◌, min, arith, pos}
use Rattle.arithmetic.proofs.Kit.{⊎_elim, zero-mul, pow-le-pow_right, lit<, Float, fin}
use Rattle.arithmetic.specs.declared.double.Parts.TheVariants.{Finite}
use Rattle.arithmetic.specs.Nearest.{units_of}
use Rattle.arithmetic.specs.Parts.{TakenApart}
use Rattle.arithmetic.proofs.Parts.{told, finite-of-parts, units_of-parts}
use Rattle.decimals.specs.declared.shown.DecimalText.{DecimalText}
use Rattle.decimals.specs.Decimal.{nearest_count, count_text, decimal_text}
use Rattle.decimals.specs.Places.{in_sixteen}
use Rattle.decimals.proofs.TooLong.{as_if}
use Rattle.decimals.proofs.shown.text_of.Goals as goal

zero_text : (k : ℕ) (s : Bool) → count_text k s 0 ≡ decimal_text k (fin s 0 (pos 0))
unfolding decimal_text nearest_count
zero_text k s = ap (λ (n : ℕ). count_text k s ((2 * n + 2 ^ 1074) / 2 ^ 1075)) (sym (zero-mul (10 ^ k)))

-- a double of q * 2 ^ k units
module _ (j : ℕ) {x : Float} {s : Bool} {q k : ℕ} (apart : TakenApart x (Finite s q k)) where
  finite_text : count_text j s (nearest_count (q * 2 ^ k) (10 ^ j)) ≡ decimal_text j x
  unfolding decimal_text
  finite_text =
      let f = finite-of-parts s q k apart.within.positive in
      ap (λ (n : ℕ). count_text j s (nearest_count n (10 ^ j))) (sym (units_of-parts s q k) ∙ ap units_of f.2)
      ∙ ap (decimal_text j) (sym f.2 ∙ apart.same)

  counted_text : j ≤ 15 → {n p : ℕ} → p ≡ 10 ^ j → n ≡ min (nearest_count (q * 2 ^ k) p) (2 ^ 63)
      → in_sixteen (count_text j s n) ≡ in_sixteen (decimal_text j x)
  counted_text h power count =
      ap (λ (m : ℕ). in_sixteen (count_text j s m)) (count ∙ ap (λ (t : ℕ). min (nearest_count (q * 2 ^ k) t) (2 ^ 63)) power)
      ∙ as_if j s (nearest_count (q * 2 ^ k) (10 ^ j)) h
      ∙ ap in_sixteen finite_text

pub nearest_count-requires : goal.nearest_count-requires
nearest_count-requires c =
    let low = pow-le-pow_right {n = 10} (lit< tt) {i = 0} {j = c.args.decimals} (omega arith) in
    ((told c.take_apart.ensures.apart c.in-Finite.is).within, omega (arith, c.power_of_ten.ensures, low))

pub returns-in-NotANumber : goal.returns-in-NotANumber
unfolding decimal_text
returns-in-NotANumber c =
    let text : Float → DecimalText = λ (x : Float). in_sixteen (decimal_text c.args.decimals x) in
    c.empty.ensures
    ∙ ⊎_elim (λ e. ap text (told c.take_apart.ensures.apart e).same) (λ e. ap text (told c.take_apart.ensures.apart e.1).same) c.in-NotANumber.is

pub returns-in-Zero : goal.returns-in-Zero
returns-in-Zero c =
    let k = c.args.decimals in
    c.count_text.ensures ∙ ap in_sixteen (zero_text k _ ∙ ap (decimal_text k) (told c.take_apart.ensures.apart c.in-Zero.is).same)

pub returns-in-Finite : goal.returns-in-Finite
returns-in-Finite c =
    c.count_text-in-Finite.ensures
    ∙ counted_text c.args.decimals (told c.take_apart.ensures.apart c.in-Finite.is) c.requires c.power_of_ten.ensures c.nearest_count.ensures
