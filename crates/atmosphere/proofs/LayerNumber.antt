-- Laws of the choice of layer by height: it is the first layer below whose top the height lies, one of seven, and the only one in whose range it lies. The
-- former search chooses the same one. Assumes nothing.
use Rattle.arithmetic.proofs.Kit.{◌≡◌, refl, sym, ap, subst, ◌∙◌, Bool, true, false, not, ◌&&◌, cond, true≢false, ℕ, zero, suc, ◌+◌, ◌≤◌, ◌<◌, arith, le-leb, lt-leb, leb-true, leb-false, T, leb, lit≤, Float, nan, inf, fin, binary64, of_bits, fits, lt, le, is_nan, is_true, is_false}
use Rattle.arithmetic.proofs.Order.{number}
use Rattle.arithmetic.proofs.Strict.{less-of_not_le, not_le-of-less, lt-le-trans}
use Rattle.atmosphere.specs.Layers.{layers, first_from, base_height, standard_height, layer_at, layer_air, standard_air, Range, OnlyRange, highest_up_to}
use Rattle.atmosphere.proofs.FirstLayer.{first-le, told-by_first}

-- ---- a height and a top, two numbers
holds : {b : Bool} → b ≡ true → T b
holds e = subst T (sym e) tt

is_number : (H : Float) → is_nan H ≡ false → T (number H)
unfolding is_nan
is_number nan e = absurd (true≢false e)
is_number (inf s) e = tt
is_number (fin s m k) e = tt

from_not_below : (H top : Float) → T (number H) → T (number top) → le top H ≡ not (lt H top)
from_not_below H top u v = go (lt H top) (le top H) refl refl
  where
    go : (a b : Bool) → lt H top ≡ a → le top H ≡ b → b ≡ not a
    go true true p q = absurd (not_le-of-less H top (holds p) (holds q))
    go true false p q = refl
    go false true p q = refl
    go false false p q = absurd (true≢false (sym (is_true (lt H top) (less-of_not_le H top u v (λ h. true≢false (sym (is_true (le top H) h) ∙ q)))) ∙ p))

base-number : (i : ℕ) → i < 6 → T (number (base_height (suc i)))
unfolding layers of_bits
base-number zero h = tt
base-number (suc zero) h = tt
base-number (suc (suc zero)) h = tt
base-number (suc (suc (suc zero))) h = tt
base-number (suc (suc (suc (suc zero)))) h = tt
base-number (suc (suc (suc (suc (suc zero))))) h = tt
base-number (suc (suc (suc (suc (suc (suc i)))))) h = absurd (omega arith)

-- ---- the run of cases, by the tops alone
abbrev pub below : Float → ℕ → Bool
below H i = lt H (base_height (suc i))

flat : (a b c d e f : Bool)
    → ◌≡◌ {A = ℕ} (cond a 0 (cond (not a && b) 1 (cond (not b && c) 2 (cond (not c && d) 3 (cond (not d && e) 4 (cond (not e && f) 5 (cond (not f) 6 0))))))) (cond a 0 (cond b 1 (cond c 2 (cond d 3 (cond e 4 (cond f 5 6))))))
flat true b c d e f = refl
flat false true c d e f = refl
flat false false true d e f = refl
flat false false false true e f = refl
flat false false false false true f = refl
flat false false false false false true = refl
flat false false false false false false = refl

-- and with each base's test, where the base is reached exactly if the height is not below it
run : {k l m o p q : Bool} (a b c d e f : Bool) → k ≡ not a → l ≡ not b → m ≡ not c → o ≡ not d → p ≡ not e → q ≡ not f
    → ◌≡◌ {A = ℕ} (cond a 0 (cond (k && b) 1 (cond (l && c) 2 (cond (m && d) 3 (cond (o && e) 4 (cond (p && f) 5 (cond q 6 0))))))) (cond a 0 (cond b 1 (cond c 2 (cond d 3 (cond e 4 (cond f 5 6))))))
run a b c d e f h₁ h₂ h₃ h₄ h₅ h₆ = cc (flat a b c d e f)

first_below : (H : Float) → is_nan H ≡ false → layer_at H ≡ first_from (below H) 6 0
unfolding layers layer_at first_from of_bits
first_below H e =
    let u = is_number H e in
    run (below H 0) (below H 1) (below H 2) (below H 3) (below H 4) (below H 5) (from_not_below H (base_height 1) u tt) (from_not_below H (base_height 2) u tt) (from_not_below H (base_height 3) u tt) (from_not_below H (base_height 4) u tt)
    (from_not_below H (base_height 5) u tt) (from_not_below H (base_height 6) u tt)

-- ---- one of seven
pub layer-lt : (H : Float) → layer_at H < 7
unfolding layer_at is_nan lt le of_bits
layer-lt nan = lit≤ tt
layer-lt (inf s) = omega (arith, first_below (inf s) refl, first-le (below (inf s)) 6 0)
layer-lt (fin s m e) = omega (arith, first_below (fin s m e) refl, first-le (below (fin s m e)) 6 0)

-- ---- a double that is a number
module _ (H : Float) (f : T (fits binary64 H)) (e : is_nan H ≡ false) where
  -- a height below a top is below the next
  rises : (bottom top : Float) → T (fits binary64 bottom) → T (fits binary64 top) → T (le bottom top) → lt H bottom ≡ true → lt H top ≡ true
  rises bottom top g h l k = is_true (lt H top) (lt-le-trans H bottom top f g h (holds k) l)

  next : (i : ℕ) → suc i < 6 → below H i ≡ true → below H (suc i) ≡ true
  unfolding layers of_bits fits le
  next zero h = rises (base_height 1) (base_height 2) tt tt tt
  next (suc zero) h = rises (base_height 2) (base_height 3) tt tt tt
  next (suc (suc zero)) h = rises (base_height 3) (base_height 4) tt tt tt
  next (suc (suc (suc zero))) h = rises (base_height 4) (base_height 5) tt tt tt
  next (suc (suc (suc (suc zero)))) h = rises (base_height 5) (base_height 6) tt tt tt
  next (suc (suc (suc (suc (suc i))))) h = absurd (omega arith)

  -- it is below the top of a layer exactly if its own is at most that one
  told : (i : ℕ) → i < 6 → below H i ≡ leb (layer_at H) i
  told i h =
      let same : i + 0 ≡ i = omega arith in
      subst (λ (j : ℕ). below H j ≡ leb (layer_at H) j) same (told-by_first (below H) 6 next 6 0 i (omega arith) h ∙ ap (λ (k : ℕ). leb k (i + 0)) (sym (first_below H e)))

  -- and it is at or above the base of a layer exactly if not
  told-above : (i : ℕ) → i < 6 → le (base_height (suc i)) H ≡ not (leb (layer_at H) i)
  told-above i h = from_not_below H (base_height (suc i)) (is_number H e) (base-number i h) ∙ ap not (told i h)

  from-base : (i : ℕ) → layer_at H ≡ i → 0 < i → T (le (base_height i) H)
  from-base zero k h = absurd (omega arith)
  from-base (suc i) k h = holds (told-above i (omega (arith, layer-lt H)) ∙ ap not (lt-leb (layer_at H) i (omega arith)))

  at_least : (i : ℕ) → Range i H → i ≤ layer_at H
  at_least zero r = omega arith
  at_least (suc i) r = leb-false (layer_at H) i (is_false (leb (layer_at H) i) (subst T (told-above i (omega (arith, r.layer))) (r.from (omega arith))))

  at_most_lem : (i : ℕ) → Range i H → layer_at H ≤ i
  at_most_lem i r = go (leb 6 i) refl
    where
      go : (t : Bool) → leb 6 i ≡ t → layer_at H ≤ i
      go true k = omega (arith, leb-true 6 i k, layer-lt H)
      go false k = let h : i < 6 = leb-false 6 i k in leb-true (layer_at H) i (sym (told i h) ∙ is_true (below H i) (r.below h))

  pub one-range : OnlyRange (layer_at H) H
  one-range =
      record {
        here = record { layer = layer-lt H; from = from-base (layer_at H) refl; below = λ h. holds (told (layer_at H) h ∙ le-leb (layer_at H) (layer_at H) (omega arith)) };
        alone = λ i r. omega (arith, at_least i r, at_most_lem i r);
      }

-- ---- the former search
highest-is : (H : Float) → T (fits binary64 H) → is_nan H ≡ false → (i : ℕ) → layer_at H ≤ i → i < 7 → highest_up_to i H ≡ layer_at H
unfolding highest_up_to
highest-is H f e zero l h = omega arith
highest-is H f e (suc i) l h = either (leb (layer_at H) i) refl (λ k. highest-is H f e i k (omega arith))
  where
    either : (t : Bool) → leb (layer_at H) i ≡ t → (layer_at H ≤ i → highest_up_to i H ≡ layer_at H) → cond (le (base_height (suc i)) H) (suc i) (highest_up_to i H) ≡ layer_at H
    either true k lower = simp (told-above H f e i (omega arith), k) (lower (leb-true (layer_at H) i k))
    either false k lower = simp (told-above H f e i (omega arith), k) (omega (arith, leb-false (layer_at H) i k))

pub former : (H : Float) → T (fits binary64 H) → layer_at H ≡ highest_up_to 6 H
unfolding layers layer_at highest_up_to of_bits is_nan lt le
former nan f = refl
former (inf s) f = sym (highest-is (inf s) f refl 6 (omega (arith, layer-lt (inf s))) (omega arith))
former (fin s m e) f = sym (highest-is (fin s m e) f refl 6 (omega (arith, layer-lt (fin s m e))) (omega arith))

-- ---- the standard air, of a height and a layer that are the definition's
pub at-height : (places : ℕ) (altitude H : Float) (i : ℕ) → H ≡ standard_height altitude → i ≡ layer_at H → layer_air places i H ≡ standard_air places altitude
unfolding standard_air
at-height places altitude H i e k = ap (λ (j : ℕ). layer_air places j H) k ∙ ap (λ (G : Float). layer_air places (layer_at G) G) e
