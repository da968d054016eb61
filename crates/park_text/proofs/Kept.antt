-- A reading is kept as the value whose double it is, and a number that was typed in the reading's own unit as its count. Assumes nothing.
use Rattle.arithmetic.proofs.Kit.{◌≡◌, refl, sym, ap, subst, ◌∙◌, Bool, true, false, cond, List, [], ◌∷◌, ℕ, suc, arith, leb, eqb, length, take, drop, T, ℤ, pos, negsuc, Float, binary64, fits, round-fits}
use Rattle.arithmetic.specs.Nearest.{nearest_ratio}
use Rattle.arithmetic.specs.Whole.{signed}
use Rattle.std.specs.Prelude.{Option, Some, None, Result, Ok, Err}
use Rattle.thousandths.specs.Thousandths.{in_range, twos_complement, thousandths, counted, count_for}
use Rattle.thousandths.proofs.Words.{twos_complement_lem}
use Rattle.thousandths.proofs.Laws.{count_of-double, double_of-count}
use Rattle.decimals.specs.declared.typed.NotACount.{NotACount}
use Rattle.decimals.specs.declared.typed.NotACount.TheVariants.{NotANumber, TooManyDecimals}
use Rattle.decimals.specs.Typed.{digits_in, scaled_to, answer, in_counts, with_decimals, after_whole, after_sign, typed}
use Rattle.fields.specs.declared.fields.Value.TheVariants as value
use Rattle.fields.specs.Fields.{double_of}
use Rattle.writer.specs.Laws.{IsHeld}
use Rattle.park_text.specs.declared.units.Unit.{Unit}
use Rattle.park_text.specs.declared.units.Unit.TheVariants.{Plain}
use Rattle.park_text.specs.Units.{numerator_of, denominator_of, reading_in}
use Rattle.park_text.specs.Understood.{kept_as, value_of}

ratio-fits : (z : ℤ) (d : ℕ) → T (fits binary64 (nearest_ratio z d))
ratio-fits (pos n) d = round-fits binary64 false n d
ratio-fits (negsuc n) d = round-fits binary64 true (suc n) d

pub reading-fits : (u : Unit) (n : ℤ) → T (fits binary64 (reading_in u n))
unfolding reading_in
reading-fits u n = ratio-fits (numerator_of u n) (denominator_of u)

pub kept : (x : Float) → T (fits binary64 x) → (double_of (value_of x) ≡ x) × IsHeld (value_of x)
unfolding value_of
kept x held = go (count_for x) refl
  where
    go : (o : Option ℤ) → count_for x ≡ o → (double_of (kept_as x o) ≡ x) × IsHeld (kept_as x o)
    go (Some n) e =
        let is = count_of-double.gives_the_double x n held e in
        (ap thousandths (twos_complement_lem.count_of_word n is.0) ∙ is.1, twos_complement_lem.word_in_range n is.0)
    go None e = (refl, held)

-- ---- a count that was typed is in range, whatever was tested before it
module _ (n : ℤ) where
  abbrev Ranged : Result ℤ NotACount → Type 0
  Ranged o = o ≡ Ok n → T (in_range n)

  no_number : Ranged (Err NotANumber)
  no_number h = let z : ◌≡◌ {A = ℕ} 0 1 = cc in absurd (omega arith)

  too_many : Ranged (Err TooManyDecimals)
  too_many h = let z : ◌≡◌ {A = ℕ} 0 1 = cc in absurd (omega arith)

  by-test : (b : Bool) {x y : Result ℤ NotACount} → Ranged x → Ranged y → Ranged (cond b x y)
  by-test true a b h = a h
  by-test false a b h = b h

  in_counts_lem : (negative : Bool) (m : ℕ) → Ranged (in_counts negative m)
  unfolding in_counts counted
  in_counts_lem negative m h = go (in_range (signed negative m)) refl h
    where
      go : (b : Bool) → in_range (signed negative m) ≡ b → answer (cond b (Some (signed negative m)) None) ≡ Ok n → T (in_range n)
      go true e h = let same : signed negative m ≡ n = cc in subst T (sym e ∙ ap in_range same) tt
      go false e h = let z : ◌≡◌ {A = ℕ} 0 1 = cc in absurd (omega arith)

  with_decimals_lem : (k : ℕ) (negative : Bool) (whole d : List ℕ) → Ranged (with_decimals k negative whole d)
  unfolding with_decimals
  with_decimals_lem k negative whole d =
      by-test (eqb (length d) 0) no_number
      (by-test (eqb (digits_in d) (length d)) (by-test (leb (length d) k) (in_counts_lem negative (scaled_to k whole d)) too_many) no_number)

  after_whole_lem : (k : ℕ) (negative : Bool) (whole d : List ℕ) → Ranged (after_whole k negative whole d)
  unfolding after_whole
  after_whole_lem k negative whole [] = in_counts_lem negative (scaled_to k whole [])
  after_whole_lem k negative whole (b ∷ d) = by-test (eqb b 46) (with_decimals_lem k negative whole d) no_number

  after_sign_lem : (k : ℕ) (negative : Bool) (t : List ℕ) → Ranged (after_sign k negative t)
  unfolding after_sign
  after_sign_lem k negative t = by-test (eqb (digits_in t) 0) no_number (after_whole_lem k negative (take (digits_in t) t) (drop (digits_in t) t))

  in_range_lem : (k : ℕ) (d : List ℕ) → Ranged (typed k d)
  unfolding typed
  in_range_lem k [] = no_number
  in_range_lem k (b ∷ s) = by-test (eqb b 45) (after_sign_lem k true s) (by-test (eqb b 43) (after_sign_lem k false s) (after_sign_lem k false (b ∷ s)))

pub count_kept : (d : List ℕ) (n : ℤ) → typed 3 d ≡ Ok n → value_of (reading_in Plain n) ≡ value.Count (twos_complement n)
unfolding value_of reading_in thousandths
count_kept d n read = ap (kept_as (thousandths n)) (double_of-count.finds_its_count n (in_range_lem n 3 d read))
