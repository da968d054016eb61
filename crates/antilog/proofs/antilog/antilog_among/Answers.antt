-- A word moved by i has its digits above the point, and those below it moved by i. Assumes nothing.
use Rattle.arithmetic.proofs.Kit.{◌≡◌, refl, sym, ap, ap₂, ◌∙◌, ℕ, suc, ◌+◌, ◌-◌, ◌/◌, ◌%◌, ◌^◌, ◌<◌, arith, ℤ, pos, negsuc, ◌-ℤ◌, ◌+ℤ◌, subst}
use Rattle.std.proofs.lemmas.Option.{IfSome_then}
use Rattle.arithmetic.specs.Whole.{floor_div, floor_mod, word_value}
use Rattle.arithmetic.specs.Nearest.{nearest_scaled}
use Rattle.antilog.specs.Antilog.{antilog_root, antilog}
use Rattle.arithmetic.specs.Places.{places}
use Rattle.arithmetic.proofs.Differences.{minus_is, minus-below}
use Rattle.antilog.proofs.antilog.antilog_among.Goals as goal

antilog_is : (p : ℕ) (P : ℤ) → nearest_scaled (antilog_root p (floor_mod P (2 ^ p))) (floor_div P (2 ^ p) -ℤ pos 62) ≡ antilog p P
unfolding antilog
antilog_is p P = refl

moved_word : (P : ℤ) (i : ℕ) → floor_mod P (2 ^ places) + i < 2 ^ places
    → nearest_scaled (antilog_root places (floor_mod P (2 ^ places) + i)) (floor_div P (2 ^ places) -ℤ pos 62) ≡ antilog places (P +ℤ pos i)
moved_word (pos a) i short =
    let fraction : a % 2 ^ places + i ≡ (a + i) % 2 ^ places = omega arith in
    let above : a / 2 ^ places ≡ (a + i) / 2 ^ places = omega arith in
    ap₂ (λ (f k : ℕ). nearest_scaled (antilog_root places f) (pos k -ℤ pos 62)) fraction above ∙ antilog_is places (pos (a + i))
moved_word (negsuc a) i short =
    let less : i < suc a = omega arith in
    let fraction : 2 ^ places - suc (a % 2 ^ places) + i ≡ 2 ^ places - suc ((a - i) % 2 ^ places) = omega arith in
    let above : a / 2 ^ places ≡ (a - i) / 2 ^ places = omega arith in
    ap₂ (λ (f k : ℕ). nearest_scaled (antilog_root places f) (negsuc k -ℤ pos 62)) fraction above ∙ antilog_is places (negsuc (a - i))
    ∙ ap (antilog places) (ap negsuc (omega arith) ∙ sym (minus_is i (suc a) ∙ minus-below i (suc a) less))

pub returns : goal.returns
returns c =
    let P = word_value places c.args.w in
    let is = c.of.ensures in
    IfSome_then c.nearest_among.result c.nearest_among.ensures
    (λ value same i some.
    same.1 i some ∙ ap₂ (λ (f : ℕ) (e : ℤ). nearest_scaled (antilog_root places (f + i)) e) is.fraction is.scale
    ∙ moved_word P i (subst (λ (f : ℕ). f + i < 2 ^ places) is.fraction (omega (arith, same.0))))
