-- The log word of q * 2^k units of the smallest double, by q's highest digit: what `log_of_parts` computes. Assumes nothing.
use Rattle.arithmetic.proofs.Kit.{◌≡◌, sym, ap, ap₂, ◌∙◌, subst, ℕ, suc, ◌+◌, ◌-◌, ◌*◌, ◌/◌, ◌%◌, ◌^◌, ◌≤◌, ◌<◌, le_trans, le_of_eq, lt_of_lt_of_le, lt_of_not-le, not-le_of_lt, mul_assoc, mul_right_comm, mul-le-mul_right, mul-div_cancel, mul-div-mul_right, suc-mul, add-mul, arith, true, false, ℤ, pos, negsuc, ◌+ℤ◌, ◌*ℤ◌, lit≤, count_leading_zeros, leading_top, digits_div, pow-add, pow_pos, pow_mono, shl_lt, shl_exact, size, minus}
use native.Mathlib.Nat.{suc-add}
use native.Mathlib.Numerals.{sub-one}
use lib.Arith.{digits_mod}
use Rattle.arithmetic.specs.declared.word.Word.{Word}
use Rattle.arithmetic.specs.Whole.{as_word}
use Rattle.antilog.specs.Log.{mantissa_of, word_with}
use Rattle.arithmetic.proofs.Pattern.{size_is}
use Rattle.arithmetic.proofs.Size.{size-shifted}
use Rattle.arithmetic.proofs.Differences.{minus-above, minus-below, minus_plus, minus-times}
use Rattle.antilog.proofs.Range.{Mantissa}

-- ---- a significand and its leading zeros in a word of 64 bits
pub record Leading (q zeros : ℕ) : Type 0 where
  pub highest : ℕ
  pub counted : zeros + suc highest ≡ 64
  pub few : highest ≤ 52
  pub low : 2 ^ highest ≤ q
  pub high : q < 2 ^ suc highest

pub leading : (q : ℕ) → 0 < q → q < 2 ^ 53 → Leading q (count_leading_zeros 64 q)
leading q some short =
    let top = leading_top 64 q some (lt_of_lt_of_le short (pow_mono {i = 53} {j = 64} (lit≤ tt))) in
    let below : top.0 < 53 = lt_of_not-le (λ h. not-le_of_lt short (le_trans (pow_mono h) top.2)) in
    record { highest = top.0; counted = top.1; few = omega arith; low = top.2; high = top.3 }

-- moved up until its highest digit is digit 62
pub moved_up : (q zeros : ℕ) (l : Leading q zeros) → (q * 2 ^ (zeros - 1)) % 2 ^ 64 ≡ q * 2 ^ (62 - l.highest)
moved_up q zeros l =
    let same : zeros - 1 ≡ 62 - l.highest = omega arith in
    ap (λ (x : ℕ). (q * 2 ^ x) % 2 ^ 64) same ∙ shl_exact (suc l.highest) (62 - l.highest) 64 l.high (omega arith)

pub moved-mantissa : (q zeros : ℕ) (l : Leading q zeros) → Mantissa (q * 2 ^ (62 - l.highest))
moved-mantissa q zeros l =
    let j = l.highest in
    let up : j + (62 - j) ≡ 62 = omega arith in
    let above : suc j + (62 - j) ≡ 63 = omega arith in
    record {
      low = le_trans (le_of_eq (ap (λ (x : ℕ). 2 ^ x) (sym up) ∙ pow-add 2 j (62 - j))) (mul-le-mul_right (2 ^ (62 - j)) l.low);
      high = subst (λ (x : ℕ). q * 2 ^ (62 - j) < 2 ^ x) above (shl_lt (suc j) (62 - j) l.high);
    }

-- ---- e * 2^p + b, for e = s - 1074
pub word-counted : (p s b : ℕ) → minus s 1074 *ℤ pos (2 ^ p) +ℤ pos b ≡ minus (s * 2 ^ p + b) (1074 * 2 ^ p)
word-counted p s b = ap (λ (z : ℤ). z +ℤ pos b) (minus-times s 1074 (2 ^ p)) ∙ minus_plus (s * 2 ^ p) (1074 * 2 ^ p) b

pub word-above : (p s b : ℕ) → 1074 ≤ s → minus s 1074 *ℤ pos (2 ^ p) +ℤ pos b ≡ pos ((s - 1074) * 2 ^ p + b)
word-above p s b h = ap (λ (z : ℤ). z *ℤ pos (2 ^ p) +ℤ pos b) (minus-above s 1074 h)

pub word_below : (p s b : ℕ) → b < 2 ^ p → s < 1074 → minus s 1074 *ℤ pos (2 ^ p) +ℤ pos b ≡ negsuc ((1073 - s) * 2 ^ p + (2 ^ p - suc b))
word_below p s b B h =
    let parts : 1074 * 2 ^ p ≡ (1073 - s) * 2 ^ p + (s * 2 ^ p + 2 ^ p) = ap (λ (x : ℕ). x * 2 ^ p) (omega arith) ∙ add-mul (1073 - s) (suc s) (2 ^ p) ∙ ap (λ (x : ℕ). (1073 - s) * 2 ^ p + x) (suc-mul s (2 ^ p)) in
    word-counted p s b ∙ minus-below (s * 2 ^ p + b) (1074 * 2 ^ p) (omega arith) ∙ ap negsuc (omega arith)

-- ---- q * 2^k, where q's highest digit is its digit j
module _ (q j k : ℕ) (low : 2 ^ j ≤ q) (high : q < 2 ^ suc j) where
  units-size : size (q * 2 ^ k) ≡ suc (j + k)
  units-size = size-shifted q k (lt_of_lt_of_le (pow_pos j) low) ∙ ap (λ (x : ℕ). x + k) (size_is q j low high) ∙ suc-add j k

  highest : size (q * 2 ^ k) - 1 ≡ j + k
  highest = ap (λ (x : ℕ). x - 1) units-size ∙ sub-one (suc (j + k))

  pub units-mantissa : j ≤ 62 → mantissa_of (q * 2 ^ k) ≡ q * 2 ^ (62 - j)
  units-mantissa h =
      let shift : 62 ≡ 62 - j + j = omega arith in
      ap (λ (x : ℕ). q * 2 ^ k * 2 ^ 62 / 2 ^ x) highest
      ∙ ap₂ (λ (x y : ℕ). x / y) (mul_right_comm q (2 ^ k) (2 ^ 62)) (pow-add 2 j k)
      ∙ mul-div-mul_right (q * 2 ^ 62) (2 ^ j) (pow_pos k)
      ∙ ap (λ (x : ℕ). x / 2 ^ j) (ap (λ (x : ℕ). q * 2 ^ x) shift ∙ ap (λ (x : ℕ). q * x) (pow-add 2 (62 - j) j) ∙ sym (mul_assoc q (2 ^ (62 - j)) (2 ^ j)))
      ∙ mul-div_cancel (q * 2 ^ (62 - j)) (pow_pos j)

  -- the word's digits, at 1 and above and below 1
  module _ (p bits : ℕ) (bits-lt : bits < 2 ^ p) where
    word-is : word_with p (q * 2 ^ k) bits ≡ minus (j + k) 1074 *ℤ pos (2 ^ p) +ℤ pos bits
    word-is = ap (λ (s : ℕ). minus s 1074 *ℤ pos (2 ^ p) +ℤ pos bits) highest

    pub units-above : 1074 ≤ j + k → ◌≡◌ {A = Word} (record { negative = false; whole = j + k - 1074; part = bits }) (as_word p (word_with p (q * 2 ^ k) bits))
    units-above h =
        (λ i. record { negative = false; whole = sym (digits_div (j + k - 1074) bits-lt) i; part = sym (digits_mod (j + k - 1074) bits-lt) i })
        ∙ ap (as_word p) (sym (word-is ∙ word-above p (j + k) bits h))

    pub units-below : j + k < 1074 → ◌≡◌ {A = Word} (record { negative = true; whole = 1073 - (j + k); part = 2 ^ p - suc bits }) (as_word p (word_with p (q * 2 ^ k) bits))
    units-below h =
        let rest_lt : 2 ^ p - suc bits < 2 ^ p = omega arith in
        (λ i. record { negative = true; whole = sym (digits_div (1073 - (j + k)) rest_lt) i; part = sym (digits_mod (1073 - (j + k)) rest_lt) i })
        ∙ ap (as_word p) (sym (word-is ∙ word_below p (j + k) bits bits-lt h))
