-- A field that no row of a field refuses is byte for byte what is written of its tag and its value, where that is not NaN, which has other patterns too. Assumes
-- nothing.
use Rattle.writer.proofs.Kit.{◌≡◌, refl, sym, ap, ap₂, subst, ◌∙◌, Bool, true, false, not, cond, List, ◌++◌, ℕ, ◌≤◌, arith, ltb-false, eqb-true, not-false, T, binary64, length, take, drop, take-add, NoneHolds, Double, Count, number_at, double_at, is_count_tag, is_count, data_size, tag_of, length_of, size_of, value_of, head_rows, Tagged, tagged, bytes, data_of, field_with, has_form, AreBytes}
use lib.Ieee.Bits.{to_bits-of_bits}
use Rattle.writer.proofs.Stated.{NotNan}
use Rattle.writer.proofs.Spelled.{word_lt, spells}

-- ---- the value of any bytes is in the form of their tag
module _ (s : List ℕ) where
  pub value-form : is_count (value_of s) ≡ is_count_tag (tag_of s)
  value-form = go (is_count_tag (tag_of s))
    where
      go : (b : Bool) → is_count (cond b (Count (number_at s 3 4)) (Double (double_at s 3))) ≡ b
      go true = refl
      go false = refl

  pub has_its_form : has_form (tag_of s) (value_of s) ≡ true
  has_its_form = go (is_count_tag (tag_of s)) refl
    where
      go : (b : Bool) → is_count_tag (tag_of s) ≡ b → has_form (tag_of s) (cond b (Count (number_at s 3 4)) (Double (double_at s 3))) ≡ true
      go true e = e
      go false e = ap not e

module _ (s : List ℕ) (all : AreBytes s) where
  pub data_same : NotNan (value_of s) → data_of (value_of s) ≡ number_at s 3 (data_size (tag_of s))
  data_same = go (is_count_tag (tag_of s))
    where
      go : (b : Bool) → NotNan (cond b (Count (number_at s 3 4)) (Double (double_at s 3))) → data_of (cond b (Count (number_at s 3 4)) (Double (double_at s 3))) ≡ number_at s 3 (cond b 4 8)
      go true number = refl
      go false number = to_bits-of_bits binary64 (number_at s 3 8) (word_lt s all 3 8) (subst (λ (b : Bool). T (not b)) (sym number) tt)

  module _ (none : NoneHolds (head_rows s)) where
    pub tag_is : Tagged (tag_of s)
    unfolding head_rows
    tag_is = tagged (tag_of s) (not-false _ none.1.0)

    pub whole : size_of s ≤ length s
    unfolding head_rows
    whole = ltb-false (length s) (size_of s) none.1.1.1.0

    length-known : length_of s ≡ data_size (tag_of s)
    unfolding head_rows
    length-known = eqb-true _ _ (not-false _ none.1.1.0)

    -- its bytes
    first_byte : bytes 1 (tag_of s) ≡ take 1 s
    unfolding number_at
    first_byte = ap (bytes 1) (omega arith) ∙ spells s all 0 1 (omega (arith, whole))

    pub same_bytes : NotNan (value_of s) → field_with (tag_of s) (value_of s) ≡ take (size_of s) s
    unfolding field_with
    same_bytes number =
        let n = data_size (tag_of s) in
        let lengths = ap (bytes 2) (sym length-known) ∙ spells s all 1 2 (omega (arith, whole)) in
        let value = ap (bytes n) (data_same number) ∙ spells s all 3 n whole in
        ap₂ (λ (a b : List ℕ). a ++ b ++ bytes n (data_of (value_of s))) first_byte lengths
        ∙ ap (λ (d : List ℕ). take 1 s ++ take 2 (drop 1 s) ++ d) value
        ∙ ap (λ (h : List ℕ). h ++ take n (drop 3 s)) (sym (take-add 1 2 s))
        ∙ sym (take-add 3 n s)
