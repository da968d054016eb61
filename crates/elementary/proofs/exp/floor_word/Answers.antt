-- The shifted words hold floor(x * 2^places), or for a negative x what -(a + 1) leaves of it (`Floor`). Assumes nothing.
use Rattle.arithmetic.proofs.Kit.{◌≡◌, refl, sym, ap, ◌∙◌, subst, inl, inr, ◌⊎◌, Bool, true, false, ℕ, zero, suc, ◌+◌, ◌-◌, ◌*◌, ◌/◌, ◌%◌, ◌^◌, ◌≤◌, ◌<◌, le_refl, le_of_eq, lt_of_le_of_lt, lt_of_lt_of_le, add-zero, arith, lit≤, ℤ}
use Rattle.std.proofs.Common.{sub-le}
use Rattle.arithmetic.specs.declared.wide.Wide.{Wide}
use Rattle.arithmetic.specs.Value.{value}
use Rattle.arithmetic.specs.declared.word.Word.{Word}
use Rattle.arithmetic.specs.Whole.{signed, floor_div, as_word}
use Rattle.arithmetic.specs.Parts.{Digits}
use Rattle.arithmetic.specs.Places.{places}
use Rattle.arithmetic.proofs.Carried.{low_word, low-remainder}
use Rattle.arithmetic.proofs.Times.{same_word}
use Rattle.arithmetic.proofs.Floor.{moved_by, floor_is, floor_below, opposite-is, quotient-lt, one_less}
use Rattle.elementary.specs.declared.log.Units.{Units}
use Rattle.elementary.proofs.exp.floor_word.Goals as goal
use Rattle.elementary.proofs.exp.floor_word.Goals.{then-negative, else-negative}

some_place : (q k : ℕ) → (0 < k → 2 ^ 52 ≤ q) → (k ≡ 0) ⊎ (2 ^ 52 ≤ q)
some_place q zero h = inl refl
some_place q (suc k) h = inr (h (omega arith))

digits_of : (u : Units) → Digits u.q u.k
digits_of u = record { positive = u.positive; short = u.short; exponent = u.exponent; full = some_place u.q u.k u.full }

-- what is shown of the answer
abbrev Answer : Bool → ℕ → ℕ → ℕ → ℕ → Type 0
Answer s q k whole part = (◌≡◌ {A = Word} (record { negative = s; whole = whole; part = part }) (as_word places (floor_div (signed s (q * 2 ^ k * 2 ^ places)) (2 ^ 1074)))) × (whole < 2 ^ 11)

-- of the words w, which hold v, and u, which hold what is above the point
answer : (s : Bool) (q k v : ℕ) (w u : Wide) → value w ≡ v → value u ≡ value w / 2 ^ places → v / 2 ^ places < 2 ^ 11
    → ◌≡◌ {A = Word} (record { negative = s; whole = v / 2 ^ places; part = v % 2 ^ places }) (as_word places (floor_div (signed s (q * 2 ^ k * 2 ^ places)) (2 ^ 1074))) → Answer s q k u.lo (w.lo % 2 ^ places)
answer s q k v w u is above small word =
    let whole_is : value u ≡ v / 2 ^ places = above ∙ ap (λ (n : ℕ). n / 2 ^ places) is in
    let whole : u.lo ≡ v / 2 ^ places = low_word u (lt_of_le_of_lt (le_of_eq whole_is) (lt_of_lt_of_le small (lit≤ tt))) ∙ whole_is in
    (same_word s whole (low-remainder w places (lit≤ tt) ∙ ap (λ (n : ℕ). n % 2 ^ places) is) ∙ word, lt_of_le_of_lt (le_of_eq whole) small)

module _ (s : Bool) (q k : ℕ) (digits : Digits q k) (small : q * 2 ^ k < 2 ^ 1085) (w u : Wide) (above : value u ≡ value w / 2 ^ places) where
  negative_answer : s ≡ true → value w ≡ ((q - 1) * 2 ^ 64 + 0xffff_ffff_ffff_ffff) / 2 ^ (1138 - places - k) → Answer s q k u.lo (w.lo % 2 ^ places)
  negative_answer e is =
      subst (λ (t : Bool). Answer t q k u.lo (w.lo % 2 ^ places)) (sym e)
      (answer true q k ((q * 2 ^ k * 2 ^ places - 1) / 2 ^ 1074) w u (is ∙ ap (λ (n : ℕ). n / 2 ^ (1138 - places - k)) (one_less q digits.positive) ∙ floor_below places q k (lit≤ tt) digits small) above
      (quotient-lt places q k (lit≤ tt) digits small (q * 2 ^ k * 2 ^ places - 1) (sub-le (q * 2 ^ k * 2 ^ places) 1))
      (ap (λ (z : ℤ). as_word places (floor_div z (2 ^ 1074))) (sym (opposite-is places q k (lit≤ tt) digits small))))

  positive_answer : s ≡ false → value w ≡ (q * 2 ^ 64 + 0) / 2 ^ (1138 - places - k) → Answer s q k u.lo (w.lo % 2 ^ places)
  positive_answer e is =
      subst (λ (t : Bool). Answer t q k u.lo (w.lo % 2 ^ places)) (sym e)
      (answer false q k (q * 2 ^ k * 2 ^ places / 2 ^ 1074) w u (is ∙ ap (λ (n : ℕ). n / 2 ^ (1138 - places - k)) (add-zero (q * 2 ^ 64)) ∙ floor_is places q k (lit≤ tt) digits small) above
      (quotient-lt places q k (lit≤ tt) digits small (q * 2 ^ k * 2 ^ places) (le_refl (q * 2 ^ k * 2 ^ places)))
      refl)

-- the words that are shifted, by the sign
Taken : Bool → ℕ → Wide → Type 0
Taken s q d = ((s ≡ true) × (d ≡ record { hi = q - 1; lo = 0xffff_ffff_ffff_ffff })) ⊎ ((s ≡ false) × (d ≡ record { hi = q; lo = 0 }))

made : (s : Bool) (units : Units) → units.q * 2 ^ units.k < 2 ^ 1085 → (d w u : Wide) → Taken s units.q d → value w ≡ value d / 2 ^ (1138 - places - units.k) → value u ≡ value w / 2 ^ places
    → Answer s units.q units.k u.lo (w.lo % 2 ^ places)
unfolding Taken
made s units small d w u (inl (sign, is)) moved above =
    negative_answer s units.q units.k (digits_of units) small w u above sign (moved ∙ ap (λ (x : Wide). value x / 2 ^ (1138 - places - units.k)) is)
made s units small d w u (inr (sign, is)) moved above =
    positive_answer s units.q units.k (digits_of units) small w u above sign (moved ∙ ap (λ (x : Wide). value x / 2 ^ (1138 - places - units.k)) is)

pub overflow_sub-units : goal.overflow_sub-units
overflow_sub-units c = moved_by places _ _ (lit≤ tt) (digits_of c.args.units) c.requires

pub overflow_cast-result : goal.overflow_cast-result
unfolding Taken
overflow_cast-result c =
    let taken : Taken c.args.negative c.args.units.q c.if-negative.digits =
    elim c.if-negative.branch [ then-negative w ↦ inl (w.if-negative.true, w.digits-is) | else-negative w ↦ inr (w.if-negative.false, w.digits-is) ] in
    omega (arith, (made c.args.negative c.args.units c.requires _ _ _ taken c.shifted_right-moved.ensures c.shifted_right.ensures).1)

pub returns : goal.returns
unfolding Taken
returns c =
    let taken : Taken c.args.negative c.args.units.q c.if-negative.digits =
    elim c.if-negative.branch [ then-negative w ↦ inl (w.if-negative.true, w.digits-is) | else-negative w ↦ inr (w.if-negative.false, w.digits-is) ] in
    made c.args.negative c.args.units c.requires _ _ _ taken c.shifted_right-moved.ensures c.shifted_right.ensures
