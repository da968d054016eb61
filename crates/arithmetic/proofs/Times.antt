-- A number of digits above and below a point, times a factor, divided by d: what stands above and below the point of the quotient.
-- And the signed whole numbers that the two signs of a word stand for. Assumes nothing.
use Rattle.arithmetic.proofs.Kit.{◌≡◌, refl, sym, ap, ◌∙◌, subst, ℕ, zero, suc, ◌+◌, ◌-◌, ◌*◌, ◌/◌, ◌%◌, ◌^◌, ◌≤◌, ◌<◌, zero-le, add_assoc, mul_right_comm, add-mul, suc-mul, div-add-mod', mul-add-mod_self_right, div-div-eq-div-mul, add-zero, le_refl, lt_of_lt_of_le, lt_of_le_of_lt, le_of_lt, le_of_suc-le-suc, mul-le-mul, mod-lt, div-lt_iff_lt-mul, arith, Bool, true, false, cond, ℤ, pos, negsuc, neg_ℤ, ◌*ℤ◌, digits_lt, pow_pos}
use Rattle.std.proofs.Common.{pred, add-suc, sub-one}
use native.Mathlib.Nat.{mul-add-div_right, suc-pred-eq_of_pos}
use Rattle.arithmetic.specs.declared.word.Word.{Word}
use Rattle.arithmetic.proofs.Integers.{opposite-of, neg-times, neg_left}
use Rattle.arithmetic.specs.Whole.{signed, floor_div, word_digits, word_value, as_word}

-- what is left to divide once the digits above the point have given their whole quotient
abbrev pub remaining : (p whole part factor extra d : ℕ) → ℕ
remaining p whole part factor extra d = whole * factor % d * 2 ^ p + (part * factor + extra)

module _ (p whole part factor extra d : ℕ) (d-pos : 0 < d) where
  product-split : (whole * 2 ^ p + part) * factor + extra ≡ whole * factor / d * 2 ^ p * d + remaining p whole part factor extra d
  product-split =
      simp (add-mul, add_assoc)
      (ap (λ (x : ℕ). x + (part * factor + extra)) (mul_right_comm whole (2 ^ p) factor ∙ ap (λ (x : ℕ). x * 2 ^ p) (sym (div-add-mod' (whole * factor) d)) ∙ add-mul (whole * factor / d * d) (whole * factor % d) (2 ^ p) ∙ ap (λ (x : ℕ). x + whole * factor % d * 2 ^ p) (mul_right_comm (whole * factor / d) d (2 ^ p)))
      ∙ add_assoc (whole * factor / d * 2 ^ p * d) (whole * factor % d * 2 ^ p) (part * factor + extra))

  quotient_is : ((whole * 2 ^ p + part) * factor + extra) / d ≡ whole * factor / d * 2 ^ p + remaining p whole part factor extra d / d
  quotient_is = ap (λ (x : ℕ). x / d) product-split ∙ mul-add-div_right d-pos (whole * factor / d * 2 ^ p) (remaining p whole part factor extra d)

  pub above-point : ((whole * 2 ^ p + part) * factor + extra) / d / 2 ^ p ≡ whole * factor / d + remaining p whole part factor extra d / (d * 2 ^ p)
  above-point =
      ap (λ (x : ℕ). x / 2 ^ p) quotient_is
      ∙ mul-add-div_right (pow_pos p) (whole * factor / d) (remaining p whole part factor extra d / d)
      ∙ ap (λ (x : ℕ). whole * factor / d + x) (div-div-eq-div-mul (remaining p whole part factor extra d) d (2 ^ p))

  pub below-point : ((whole * 2 ^ p + part) * factor + extra) / d % 2 ^ p ≡ remaining p whole part factor extra d / d % 2 ^ p
  below-point =
      ap (λ (x : ℕ). x % 2 ^ p) quotient_is ∙ mul-add-mod_self_right (whole * factor / d) (2 ^ p) (remaining p whole part factor extra d / d)

-- ---- the signs
-- what a negative word's product is below, and a word's that is not
abbrev pub extra_of : Bool → ℕ → ℕ
extra_of negative factor = cond negative (factor - 1) 0

negative-product : (a factor : ℕ) → 0 < factor → negsuc a *ℤ pos factor ≡ negsuc (a * factor + (factor - 1))
negative-product a factor h =
    ap (λ (x : ℕ). neg_ℤ (pos x))
    (suc-mul a factor ∙ ap (λ (x : ℕ). a * factor + x) (sym (suc-pred-eq_of_pos h)) ∙ add-suc (a * factor) (pred factor))
    ∙ ap (λ (x : ℕ). negsuc (a * factor + x)) (sym (sub-one factor))

-- the word of the floor of w * factor / d, whichever w's sign
pub times-word : (p : ℕ) (w : Word) (factor d : ℕ) → 0 < factor → 0 < d
    → as_word p (floor_div (word_value p w *ℤ pos factor) d) ≡ record { negative = w.negative; whole = (word_digits p w * factor + extra_of w.negative factor) / d / 2 ^ p; part = (word_digits p w * factor + extra_of w.negative factor) / d % 2 ^ p }
times-word p w factor d F D = go w.negative
  where
    go : (s : Bool) → as_word p (floor_div (cond s (negsuc (word_digits p w)) (pos (word_digits p w)) *ℤ pos factor) d) ≡ record { negative = s; whole = (word_digits p w * factor + extra_of s factor) / d / 2 ^ p; part = (word_digits p w * factor + extra_of s factor) / d % 2 ^ p }
    go true = ap (λ (z : ℤ). as_word p (floor_div z d)) (negative-product (word_digits p w) factor F)
    go false = ap (λ (x : ℕ). as_word p (pos (x / d))) (sym (add-zero (word_digits p w * factor)))

pub same_word : (s : Bool) {whole whole' part part' : ℕ} → whole ≡ whole' → part ≡ part' → ◌≡◌ {A = Word} (record { negative = s; whole = whole; part = part }) (record { negative = s; whole = whole'; part = part' })
same_word s e f = λ i. record { negative = s; whole = e i; part = f i }

-- -a is -((a - 1) + 1)
pub opposite-positive : (p a : ℕ) → 0 < a → ◌≡◌ {A = Word} (record { negative = true; whole = (a - 1) / 2 ^ p; part = (a - 1) % 2 ^ p }) (as_word p (neg_ℤ (pos a)))
opposite-positive p a h = ap (as_word p) (sym (opposite-of a h))

-- ---- a word and the whole number that it stands for
pub word_value_lem : (p : ℕ) (z : ℤ) → word_value p (as_word p z) ≡ z
word_value_lem p (pos a) = ap pos (div-add-mod' a (2 ^ p))
word_value_lem p (negsuc a) = ap negsuc (div-add-mod' a (2 ^ p))

pub part-lt : (p : ℕ) (z : ℤ) → (as_word p z).part < 2 ^ p
part-lt p (pos a) = mod-lt a (pow_pos p)
part-lt p (negsuc a) = mod-lt a (pow_pos p)

pub word-short : (p : ℕ) {w : Word} (z : ℤ) → w ≡ as_word p z → w.part < 2 ^ p
word-short p z e = subst (λ (v : Word). v.part < 2 ^ p) (sym e) (part-lt p z)

-- a factor of d at most leaves a word no longer
pub times-small : (p n : ℕ) (w : Word) (factor d : ℕ) → 0 < factor → factor ≤ d → w.whole < 2 ^ n → w.part < 2 ^ p → (as_word p (floor_div (word_value p w *ℤ pos factor) d)).whole < 2 ^ n
times-small p n w factor d F small whole-lt part-lt =
    let D : 0 < d = lt_of_lt_of_le F small in
    let a = word_digits p w in
    let extra : extra_of w.negative factor ≤ factor - 1 = extra_le w.negative in
    let next : suc (a * factor + extra_of w.negative factor) ≤ suc a * factor = omega (arith, suc-mul a factor) in
    subst (λ (v : Word). v.whole < 2 ^ n) (sym (times-word p w factor d F D))
    ((div-lt_iff_lt-mul (pow_pos p)).1
    ((div-lt_iff_lt-mul D).1
    (lt_of_lt_of_le next (mul-le-mul (digits_lt whole-lt part-lt) small))))
  where
    extra_le : (s : Bool) → extra_of s factor ≤ factor - 1
    extra_le true = le_refl (factor - 1)
    extra_le false = zero-le

-- the opposite of a word has one digit more above the point at most
pub opposite-small : (p n : ℕ) (w : Word) → w.whole < 2 ^ n → w.part < 2 ^ p → (as_word p (neg_ℤ (word_value p w))).whole ≤ 2 ^ n
opposite-small p n w whole-lt part-lt = go w.negative (word_digits p w) (digits_lt whole-lt part-lt)
  where
    go : (s : Bool) (a : ℕ) → a < 2 ^ n * 2 ^ p → (as_word p (neg_ℤ (cond s (negsuc a) (pos a)))).whole ≤ 2 ^ n
    go true a h = le_of_suc-le-suc ((div-lt_iff_lt-mul (pow_pos p)).1 (lt_of_le_of_lt h (subst (λ (x : ℕ). 2 ^ n * 2 ^ p < x) (sym (suc-mul (2 ^ n) (2 ^ p))) (omega (arith, pow_pos p)))))
    go false zero h = le_of_lt ((div-lt_iff_lt-mul (pow_pos p)).1 h)
    go false (suc a) h = le_of_lt ((div-lt_iff_lt-mul (pow_pos p)).1 (le_of_lt h))

-- ---- a product with an exponent that may be negative
pub times-sign : (s : Bool) (a : ℤ) (q : ℕ) → cond s (neg_ℤ a) a *ℤ pos q ≡ a *ℤ signed s q
times-sign false a q = refl
times-sign true a q = neg_left a q ∙ sym (neg-times a q)
