-- Two's complement: the counts from 0 up are their own words, and -(k + 1) has the word 2^32 - (k + 1). Assumes nothing.
use Rattle.arithmetic.proofs.Kit.{◌≡◌, refl, sym, ap, subst, ◌∙◌, Bool, true, false, not, ℕ, zero, suc, ◌-◌, ◌≤◌, ◌<◌, arith, ℤ, pos, negsuc, T, leb, leb→le, le→leb, nleb→lt, w32, SFits, of_z, to_z, to_z-of_z, le-leb, lt-leb, lt-ltb}
use mir.ValLaws.{to_z_pos, to_z-neg}
use Rattle.arithmetic.specs.Whole.{signed}
use Rattle.thousandths.specs.Thousandths.{in_range, count_of, twos_complement}
use Rattle.thousandths.proofs.Sizes.{InRange}

pub record TwosComplement : Type 0 where
  pub count_in_range : (w : ℕ) → w < 4294967296 → InRange (count_of w)
  pub word_in_range : (n : ℤ) → InRange n → twos_complement n < 4294967296
  pub word_of_count : (w : ℕ) → w < 4294967296 → twos_complement (count_of w) ≡ w
  pub count_of_word : (n : ℤ) → InRange n → count_of (twos_complement n) ≡ n

-- ---- the two halves of the words
pub count-below : (w : ℕ) → w ≤ 2147483647 → count_of w ≡ pos w
unfolding count_of
count-below w h = rw (le-leb w 2147483647 h)

pub count-above : (w : ℕ) → 2147483647 < w → w < 4294967296 → count_of w ≡ negsuc (4294967295 - w)
unfolding count_of
count-above w h k = rw (lt-leb w 2147483647 h, lt-ltb w 4294967296 k) (ap negsuc (omega arith))

-- a property of every count, by those of the two halves
by-halves : (P : ℕ → ℤ → Type 0) → ((w : ℕ) → w ≤ 2147483647 → P w (pos w)) → ((w : ℕ) → 2147483647 < w → w < 4294967296 → P w (negsuc (4294967295 - w)))
    → (w : ℕ) → w < 4294967296 → P w (count_of w)
by-halves P low high w h = go (leb w 2147483647) (leb→le w 2147483647) (nleb→lt w 2147483647)
  where
    go : (b : Bool) → (T b → w ≤ 2147483647) → (T (not b) → 2147483647 < w) → P w (count_of w)
    go true l g = rw (count-below w (l tt)) (low w (l tt))
    go false l g = rw (count-above w (g tt) h) (high w (g tt) h)

-- the machine reads a signed number from its bits as `count_of` does
pub to_z-count : (w : ℕ) → w < 4294967296 → to_z w32 w ≡ count_of w
to_z-count = by-halves (λ w n. to_z w32 w ≡ n) (λ w l. to_z_pos w32 w (omega arith)) high
  where
    high : (w : ℕ) → 2147483647 < w → w < 4294967296 → to_z w32 w ≡ negsuc (4294967295 - w)
    high w g h = let bits : w ≡ 4294967296 - suc (4294967295 - w) = omega arith in ap (to_z w32) bits ∙ to_z-neg w32 (4294967295 - w) (omega arith)

-- ---- a size with a sign
pub too_high : (n : ℕ) → 2147483647 < n → in_range (signed false n) ≡ false
too_high n h = lt-leb n 2147483647 h

pub too_low : (n : ℕ) → 2147483648 < n → in_range (signed true n) ≡ false
too_low zero h = absurd (omega arith)
too_low (suc n) h = lt-leb (suc n) 2147483648 h

pub out_of_range : (s : Bool) (n : ℕ) → 2147483648 < n → in_range (signed s n) ≡ false
out_of_range false n h = too_high n (omega arith)
out_of_range true n h = too_low n h

-- ---- the laws
pub in_range_lem : (w : ℕ) → w < 4294967296 → InRange (count_of w)
in_range_lem = by-halves (λ w n. InRange n) (λ w l. le→leb w 2147483647 l) (λ w g h. le→leb (suc (4294967295 - w)) 2147483648 (omega arith))

-- a signed number of 32 bits is a count, and the machine's reading of a count back from its bits is the count
pub fits-in_range : (z : ℤ) → SFits w32 z → InRange z
fits-in_range (pos n) f = le→leb n 2147483647 (omega arith)
fits-in_range (negsuc n) f = le→leb (suc n) 2147483648 f.sfits

pub in_range-fits : (z : ℤ) → in_range z ≡ true → SFits w32 z
in_range-fits (pos n) h = let l : n ≤ 2147483647 = leb→le n 2147483647 (subst T (sym h) tt) in record { sfits = omega arith }
in_range-fits (negsuc n) h = let l : suc n ≤ 2147483648 = leb→le (suc n) 2147483648 (subst T (sym h) tt) in record { sfits = omega arith }

pub reads-back : (w : ℕ) (z : ℤ) → w < 4294967296 → z ≡ count_of w → to_z w32 (of_z w32 z) ≡ count_of w
reads-back w z h e = rw e (to_z-of_z w32 (count_of w) (by-halves (λ w n. SFits w32 n) (λ w l. record { sfits = omega arith }) (λ w g h. record { sfits = omega arith }) w h))

word_of_count_lem : (w : ℕ) → w < 4294967296 → twos_complement (count_of w) ≡ w
unfolding twos_complement
word_of_count_lem = by-halves (λ w n. twos_complement n ≡ w) (λ w l. refl) (λ w g h. omega arith)

word_in_range_lem : (n : ℤ) → InRange n → twos_complement n < 4294967296
unfolding twos_complement
word_in_range_lem (pos n) h = omega (arith, leb→le n 2147483647 h)
word_in_range_lem (negsuc n) h = omega arith

pub count_of_word_lem : (n : ℤ) → InRange n → count_of (twos_complement n) ≡ n
unfolding twos_complement
count_of_word_lem (pos n) h = count-below n (leb→le n 2147483647 h)
count_of_word_lem (negsuc n) h =
    let l : suc n ≤ 2147483648 = leb→le (suc n) 2147483648 h in
    count-above (4294967296 - suc n) (omega arith) (omega arith) ∙ ap negsuc (omega arith)

pub twos_complement_lem : TwosComplement
twos_complement_lem = record { count_in_range = in_range_lem; word_in_range = word_in_range_lem; word_of_count = word_of_count_lem; count_of_word = count_of_word_lem }
