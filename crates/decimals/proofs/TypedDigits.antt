-- Digits one after the other: how many a text begins with, and the number that they spell, counted no further than a limit. Assumes nothing.
use Rattle.arithmetic.proofs.Kit.{◌≡◌, refl, sym, ap, ◌∙◌, Bool, true, false, not, cond, List, [], ◌∷◌, ◌++◌, ℕ, suc, ◌+◌, ◌-◌, ◌*◌, ◌≤◌, ◌<◌, zero-le, suc-le-suc, min, lt_of_lt_of_le, mul-le-mul, add-one, arith, T, leb, leb→le, nleb→lt, length, get_or, drop, drop_of_length-le, drop-cons}
use Rattle.arithmetic.specs.Whole.{signed}
use Rattle.thousandths.specs.Thousandths.{counted}
use Rattle.thousandths.proofs.Words.{out_of_range}
use Rattle.thousandths.proofs.Laws.{not_counted}
use Rattle.decimals.specs.Typed.{is_digit, digits_in, number_from, answer, in_counts}

-- ---- the digits from a position on
module _ (s : List ℕ) (i : ℕ) (within : i < length s) where
  head_at : drop i s ≡ get_or s i 0 ∷ drop (i + 1) s
  head_at = drop-cons s i 0 within ∙ ap (λ (k : ℕ). get_or s i 0 ∷ drop k s) (sym (add-one i))

  pub number_at : (n : ℕ) → number_from n (drop i s) ≡ number_from (n * 10 + (get_or s i 0 - 48)) (drop (i + 1) s)
  unfolding number_from
  number_at n = ap (number_from n) head_at

-- at the text's end there is nothing left
pub all_spelt : (n : ℕ) (s : List ℕ) (i : ℕ) → length s ≤ i → number_from n (drop i s) ≡ n
unfolding number_from
all_spelt n s i h = ap (number_from n) (drop_of_length-le s h)

pub digits_within_lem : (s : List ℕ) → digits_in s ≤ length s
unfolding digits_in
digits_within_lem [] = zero-le
digits_within_lem (b ∷ s) = go (is_digit b) (digits_within_lem s)
  where
    go : (t : Bool) → digits_in s ≤ length s → cond t (suc (digits_in s)) 0 ≤ suc (length s)
    go true h = suc-le-suc h
    go false h = zero-le

-- ---- the number
pub number_append : (n : ℕ) (s t : List ℕ) → number_from n (s ++ t) ≡ number_from (number_from n s) t
unfolding number_from
number_append n [] t = refl
number_append n (b ∷ s) t = number_append (n * 10 + (b - 48)) s t

-- a number that is counted up to c only gives the same number up to c
pub number-capped : (c n : ℕ) (s : List ℕ) → min (number_from (min n c) s) c ≡ min (number_from n s) c
unfolding number_from
number-capped c n [] = omega arith
number-capped c n (b ∷ s) =
    let d : ℕ = b - 48 in
    let same : min (min n c * 10 + d) c ≡ min (n * 10 + d) c = omega arith in
    sym (number-capped c (min n c * 10 + d) s) ∙ ap (λ (m : ℕ). min (number_from m s) c) same ∙ number-capped c (n * 10 + d) s

-- ---- and 2^32 is more than any count
pub counts-capped : (s : Bool) (n t : ℕ) → 0 < t → in_counts s (min n 4294967296 * t) ≡ in_counts s (n * t)
unfolding in_counts
counts-capped s n t some = go (leb n 4294967296) (leb→le n 4294967296) (nleb→lt n 4294967296)
  where
    above : (m : ℕ) → 4294967296 ≤ m → 2147483648 < m * t
    above m h = lt_of_lt_of_le (omega arith) (mul-le-mul h some)

    go : (b : Bool) → (T b → n ≤ 4294967296) → (T (not b) → 4294967296 < n) → answer (counted (signed s (min n 4294967296 * t))) ≡ answer (counted (signed s (n * t)))
    go true l g = let h = l tt in ap (λ (m : ℕ). answer (counted (signed s (m * t)))) (omega arith)
    go false l g =
        let h = g tt in
        ap answer
        (not_counted (signed s (min n 4294967296 * t)) (out_of_range s (min n 4294967296 * t) (above (min n 4294967296) (omega arith)))
        ∙ sym (not_counted (signed s (n * t)) (out_of_range s (n * t) (above n (omega arith)))))
