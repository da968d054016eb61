-- The last digits of n before an empty text, and a point before them.
use Rattle.std.proofs.Common.{◌≡◌, ◌∙◌, sym, ap, ℕ, zero, suc, [], ◌∷◌, rules}
use Rattle.arithmetic.proofs.Kit.{append-nil}
use Rattle.decimals.specs.declared.shown.DecimalText.{DecimalText}
use Rattle.decimals.specs.Decimal.{last_digits, pointed}
use Rattle.decimals.specs.Places.{in_sixteen}
use Rattle.decimals.proofs.shown.decimals_text.Goals as goal

-- a point before some digits
after_point : (k n : ℕ) (r : DecimalText) → (k ≡ 0 → ⊥) → r ≡ in_sixteen (46 ∷ last_digits k n) → r ≡ in_sixteen (pointed k n)
after_point zero n r some e = absurd (some (search rules))
after_point (suc k) n r some e = e

pub returns-then-decimals-eq0 : goal.returns-then-decimals-eq0
returns-then-decimals-eq0 c = c.empty.ensures ∙ ap (λ (k : ℕ). in_sixteen (pointed k c.args.n)) (sym c.if-decimals-eq0.true)

pub returns : goal.returns
returns c =
    let last = last_digits c.args.decimals c.args.n in
    after_point c.args.decimals c.args.n _ c.if-decimals-eq0.false
    (c.with_byte.ensures.stands last
    (c.with_last_digits.ensures.stands [] c.empty-2.ensures ∙ ap in_sixteen (append-nil last)))
