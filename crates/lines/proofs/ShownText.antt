-- A decimal text on a line, or `none` where it has no bytes or too many. Assumes nothing.
use Rattle.arithmetic.proofs.Kit.{◌≡◌, refl, ap, ◌∙◌, Bool, true, false, cond, List, [], ◌++◌, ℕ, ◌-◌, ◌<◌, ◌≤◌, arith, ltb-true, ne_eqb, ltb, length, drop}
use Rattle.std.specs.Prelude.{Option, Some, None, MatchOption}
use Rattle.std.specs.Option.{unwrap_or}
use Rattle.std.specs.Borrow.{Bor}
use Rattle.arithmetic.specs.Ascii.{ascii}
use Rattle.decimals.proofs.Places.{too_long_lem, not_long, its_text}
use Rattle.decimals.specs.declared.shown.DecimalText.{DecimalText}
use Rattle.decimals.specs.Places.{in_sixteen}
use Rattle.lines.specs.Decimal.{shown_line}

-- the text where there is room for it
abbrev pub few : List ℕ → List ℕ
few t = cond (ltb 16 (length t)) [] t

pub few_bytes : (t : List ℕ) {r : DecimalText} → r ≡ in_sixteen t → (o : Option (Bor (List ℕ))) (d : Bor (List ℕ)) {w : Bor (List ℕ)} → d.now ≡ []
    → MatchOption o (16 < r.len) (λ text. (r.len ≤ 16) × (text.now ≡ drop (16 - r.len) r.bytes)) → w ≡ unwrap_or o d → w.now ≡ few t
few_bytes t {r} is o d empty h f = ap (λ (b : Bor (List ℕ)). b.now) f ∙ go o h
  where
    go : (o : Option (Bor (List ℕ))) → MatchOption o (16 < r.len) (λ text. (r.len ≤ 16) × (text.now ≡ drop (16 - r.len) r.bytes)) → (unwrap_or o d).now ≡ few t
    go None long = rw (too_long_lem t is long) empty
    go (Some x) short = rw (not_long t is short.0) (short.1 ∙ its_text t is short.0)

module _ (t : List ℕ) {s : List ℕ} (is : s ≡ few t) where
  pub none_shown : length s ≡ 0 → ascii "none\n" ≡ shown_line t
  unfolding shown_line
  none_shown h = go (ltb 16 (length t)) refl is
    where
      go : (b : Bool) → ltb 16 (length t) ≡ b → s ≡ cond b [] t → ascii "none\n" ≡ shown_line t
      go true e f = rw (ne_eqb (length t) 0 (λ z. omega (arith, ltb-true 16 (length t) e)), e)
      go false e f = let none : length t ≡ 0 = omega (arith, ap length f, h) in rw none

  pub shown : 0 < length s → s ++ ascii "\n" ≡ shown_line t
  unfolding shown_line
  shown h = go (ltb 16 (length t)) refl is
    where
      go : (b : Bool) → ltb 16 (length t) ≡ b → s ≡ cond b [] t → s ++ ascii "\n" ≡ shown_line t
      go true e f = absurd (omega (arith, ap length f, h))
      go false e f = rw (ne_eqb (length t) 0 (λ z. omega (arith, ap length f, h)), e) (ap (λ (l : List ℕ). l ++ ascii "\n") f)
