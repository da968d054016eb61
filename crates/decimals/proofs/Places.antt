-- A decimal text at the right of sixteen places, and how long a figure is. Assumes nothing.
use Rattle.arithmetic.proofs.Kit.{◌≡◌, refl, ap, ◌∙◌, Bool, true, false, cond, List, ℕ, ◌-◌, ◌<◌, ◌≤◌, arith, ltb-false, ltb, lit≤, Float, length, drop, replicate, length-replicate, length-append}
use lib.Seq.{drop_at}
use Rattle.decimals.specs.declared.shown.DecimalText.{DecimalText}
use Rattle.decimals.specs.Decimal.{decimal_text}
use Rattle.decimals.specs.Places.{too_long, standing, in_sixteen}
use Rattle.arithmetic.specs.Ascii.{ascii}
use Rattle.decimals.specs.Shown.{shown}

pub sixteen : (t : List ℕ) → length (in_sixteen t).bytes ≡ 16
unfolding in_sixteen
sixteen t = go (ltb 16 (length t)) refl
  where
    go : (b : Bool) → ltb 16 (length t) ≡ b → length (cond b too_long (standing t)).bytes ≡ 16
    go true e = refl
    go false e = omega (arith, length-append (replicate (16 - length t) 32) t, length-replicate {A = ℕ} (16 - length t) 32, ltb-false 16 (length t) e)

-- by its length
module _ (t : List ℕ) {r : DecimalText} (is : r ≡ in_sixteen t) where
  by_length : (b : Bool) → ltb 16 (length t) ≡ b → r ≡ cond b too_long (standing t)
  unfolding in_sixteen
  by_length b e = is ∙ ap (λ (d : Bool). cond d too_long (standing t)) e

  pub too_long_lem : 16 < r.len → ltb 16 (length t) ≡ true
  too_long_lem h = go (ltb 16 (length t)) refl
    where
      go : (b : Bool) → ltb 16 (length t) ≡ b → ltb 16 (length t) ≡ true
      go true e = e
      go false e = let same : r.len ≡ length t = ap (λ (d : DecimalText). d.len) (by_length false e) in absurd (omega (arith, ltb-false 16 (length t) e))

  module _ (few : r.len ≤ 16) where
    pub not_long : ltb 16 (length t) ≡ false
    not_long = go (ltb 16 (length t)) refl
      where
        go : (b : Bool) → ltb 16 (length t) ≡ b → ltb 16 (length t) ≡ false
        go true e = let seventeen : r.len ≡ 17 = ap (λ (d : DecimalText). d.len) (by_length true e) in absurd (omega arith)
        go false e = e

    pub its_length : r.len ≡ length t
    its_length = ap (λ (d : DecimalText). d.len) (by_length false not_long)

    pub its_text : drop (16 - r.len) r.bytes ≡ t
    its_text =
        ap (λ (d : DecimalText). drop (16 - d.len) d.bytes) (by_length false not_long)
        ∙ drop_at (replicate (16 - length t) 32) t (16 - length t) (length-replicate (16 - length t) 32)

-- ---- a figure
pub too_wide : (k : ℕ) (x : Float) → ltb 16 (length (decimal_text k x)) ≡ true → ascii "too wide" ≡ shown k x
unfolding shown
too_wide k x e = rw e

pub all_shown : (k : ℕ) (x : Float) → ltb 16 (length (decimal_text k x)) ≡ false → decimal_text k x ≡ shown k x
unfolding shown
all_shown k x e = rw e

pub shown-short : (k : ℕ) (x : Float) → length (shown k x) ≤ 16
unfolding shown
shown-short k x = go (ltb 16 (length (decimal_text k x))) refl
  where
    go : (b : Bool) → ltb 16 (length (decimal_text k x)) ≡ b → length (shown k x) ≤ 16
    go true e = simp e (lit≤ tt)
    go false e = simp e (ltb-false 16 (length (decimal_text k x)) e)
