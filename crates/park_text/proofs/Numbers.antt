-- Where a number ends: at the first byte that is no digit, sign or point; and what the library's searches of a text find. Assumes nothing.
use Rattle.arithmetic.proofs.Kit.{◌≡◌, refl, sym, ap, ◌∙◌, Bool, true, false, not, cond, ◌||◌, List, [], ◌∷◌, ℕ, suc, ◌+◌, ◌-◌, ◌≤◌, ◌<◌, min, zero-le, suc-le-suc, arith, lt-ltb, le-ltb, ltb-true, ltb-false, eq-eqb, ne_eqb, eqb-true, eqb-false, ltb, eqb, length}
use Rattle.std.specs.Prelude.{Option, Some, None}
use Rattle.std.specs.List.{position_or_len, list_any}
use Rattle.std.specs.Option.{unwrap_or}
use Rattle.pages.specs.Scan.{index_of, index_after}
use Rattle.park_text.specs.declared.units.Unit.{Unit}
use Rattle.park_text.specs.declared.units.Unit.TheVariants.{Plain, Foot, Fahrenheit, Kelvin, Kilopascal, InchOfMercury}
use Rattle.park_text.specs.Units.{places_of}
use Rattle.park_text.specs.Word.{is_number_byte, number_length, three_decimals, has}

pub number_within : (s : List ℕ) → number_length s ≤ length s
unfolding number_length
number_within [] = zero-le
number_within (b ∷ s) = go (is_number_byte b) (number_within s)
  where
    go : (t : Bool) → number_length s ≤ length s → cond t (suc (number_length s)) 0 ≤ suc (length s)
    go true h = suc-le-suc h
    go false h = zero-le

-- ---- the first byte after a number
abbrev pub ends : ℕ → Bool
ends b = not (is_number_byte b)

first-end : (s : List ℕ) → position_or_len ends s ≡ number_length s
unfolding number_length
first-end [] = refl
first-end (b ∷ s) = go (is_number_byte b) (first-end s)
  where
    go : (t : Bool) → position_or_len ends s ≡ number_length s → cond (not (not t)) (1 + position_or_len ends s) 0 ≡ cond t (suc (number_length s)) 0
    go true e = omega arith
    go false e = refl

pub ends-found : (s : List ℕ) {r : Option ℕ} → r ≡ cond (ltb (position_or_len ends s) (length s)) (Some (position_or_len ends s)) None → unwrap_or r (length s) ≡ number_length s
ends-found s sought =
    ap (λ (o : Option ℕ). unwrap_or o (length s)) (sought ∙ ap (λ (n : ℕ). cond (ltb n (length s)) (Some n) None) (first-end s))
    ∙ go (ltb (number_length s) (length s)) refl
  where
    go : (b : Bool) → ltb (number_length s) (length s) ≡ b → unwrap_or (cond b (Some (number_length s)) None) (length s) ≡ number_length s
    go true e = refl
    go false e = omega (arith, number_within s, ltb-false (number_length s) (length s) e)

-- ---- a byte of a text
both_more : (i n : ℕ) → ltb (suc i) (suc n) ≡ ltb i n
both_more i n = go (ltb i n) refl
  where
    go : (b : Bool) → ltb i n ≡ b → ltb (suc i) (suc n) ≡ ltb i n
    go true e = lt-ltb (suc i) (suc n) (omega (arith, ltb-true i n e)) ∙ sym e
    go false e = le-ltb (suc i) (suc n) (omega (arith, ltb-false i n e)) ∙ sym e

pub has_is : (b : ℕ) (s : List ℕ) → has b s ≡ list_any (λ y. eqb y b) s
unfolding index_of index_after
has_is b [] = refl
has_is b (a ∷ s) = go (eqb a b) (has_is b s)
  where
    go : (t : Bool) → ltb (index_of b s) (length s) ≡ list_any (λ y. eqb y b) s → ltb (index_after t (index_of b s)) (suc (length s)) ≡ (t || list_any (λ y. eqb y b) s)
    go true h = lt-ltb 0 (suc (length s)) (omega arith)
    go false h = both_more (index_of b s) (length s) ∙ h

module _ (d : ℕ) (s : List ℕ) {r : Option ℕ} (sought : r ≡ cond (ltb (position_or_len (λ b. eqb b d) s) (length s)) (Some (position_or_len (λ b. eqb b d) s)) None) where
  pub before_end : {i : ℕ} → r ≡ Some i → i < length s
  before_end {i} e = go (ltb (position_or_len (λ b. eqb b d) s) (length s)) refl (sym sought ∙ e)
    where
      go : (b : Bool) → ltb (position_or_len (λ b. eqb b d) s) (length s) ≡ b → cond b (Some (position_or_len (λ b. eqb b d) s)) None ≡ Some i → i < length s
      go true k h = let same : position_or_len (λ b. eqb b d) s ≡ i = cc in omega (arith, ltb-true (position_or_len (λ b. eqb b d) s) (length s) k, same)
      go false k h = absurd cc

-- ---- three decimals: a point stands four places before the end
pub with_point : (d : List ℕ) {at : ℕ} → at < length d → at ≡ index_of 46 d → eqb (length d - at) 4 ≡ three_decimals d
with_point d {at} within is = go (eqb (length d - at) 4) refl
  where
    go : (b : Bool) → eqb (length d - at) 4 ≡ b → b ≡ three_decimals d
    go true e = sym (eq-eqb (index_of 46 d + 4) (length d) (omega (arith, eqb-true (length d - at) 4 e)))
    go false e = sym (ne_eqb (index_of 46 d + 4) (length d) (λ same. eqb-false (length d - at) 4 e (omega arith)))

pub without_point : (d : List ℕ) → index_of 46 d ≡ length d → false ≡ three_decimals d
without_point d none = sym (ne_eqb (index_of 46 d + 4) (length d) (λ same. omega (arith, same)))

-- ---- no unit has more than four decimals
pub places_few : (u : Unit) → min (places_of u) 4 ≡ places_of u
places_few Plain = refl
places_few Foot = refl
places_few Fahrenheit = refl
places_few Kelvin = refl
places_few Kilopascal = refl
places_few InchOfMercury = refl
