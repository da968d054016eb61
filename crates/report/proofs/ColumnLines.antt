-- A decimal text in sixteen places is a figure's column, and how long the line of a figure is. Assumes nothing.
use Rattle.arithmetic.proofs.Kit.{◌≡◌, refl, ap, ◌∙◌, Bool, true, false, List, ℕ, ◌+◌, ◌-◌, ◌<◌, ◌≤◌, arith, ltb-true, ltb-false, lt-ltb, le-ltb, ltb, Float, length, replicate, length-append, length-replicate}
use Rattle.decimals.specs.declared.shown.DecimalText.{DecimalText}
use Rattle.decimals.specs.Places.{in_sixteen}
use Rattle.decimals.proofs.Standing.{fits, length-known}
use Rattle.arithmetic.specs.Ascii.{ascii}
use Rattle.decimals.specs.Decimal.{decimal_text}
use Rattle.pages.proofs.Short.{Within, whole, both}
use Rattle.report.specs.Columns.{column, figure_line}

module _ (text : DecimalText) (t : List ℕ) (e : text ≡ in_sixteen t) where
  long : 16 < text.len → 16 < length t
  long h = go (ltb 16 (length t)) refl
    where
      go : (b : Bool) → ltb 16 (length t) ≡ b → 16 < length t
      go true f = ltb-true 16 (length t) f
      go false f =
          let short = ltb-false 16 (length t) f in
          absurd (omega (arith, ap (λ (x : DecimalText). x.len) (e ∙ fits t short)))

  pub too_wide : 16 < text.len → ascii "        too wide" ≡ column t
  unfolding column
  too_wide h = simp (lt-ltb 16 (length t) (long h))

  pub standing : text.len ≤ 16 → text.bytes ≡ column t
  unfolding column
  standing h =
      let known : (in_sixteen t).len ≤ 16 = rw (← e) h in
      let short : length t ≤ 16 = omega (arith, length-known t known) in
      simp (le-ltb 16 (length t) short) (ap (λ (x : DecimalText). x.bytes) (e ∙ fits t short))

-- ---- figures
column-short : (t : List ℕ) → Within (column t) 16
unfolding column
column-short t = go (ltb 16 (length t)) refl
  where
    go : (b : Bool) → ltb 16 (length t) ≡ b → Within (column t) 16
    go true e = simp e (whole (ascii "        too wide"))
    go false e =
        simp e
        record {
          bound = omega (arith, ltb-false 16 (length t) e, length-append (replicate (16 - length t) 32) t, length-replicate {A = ℕ} (16 - length t) 32);
        }

pub figure-short : (name : List ℕ) (decimals : ℕ) (x : Float) (unit : List ℕ) → Within (figure_line name decimals x unit) (length name + 16 + length unit)
unfolding figure_line
figure-short name decimals x unit = both (both (whole name) (column-short (decimal_text decimals x))) (whole unit)
