-- More decimals than fifteen are as fifteen.
use Rattle.std.proofs.Common.{◌≡◌, ◌∙◌, ap, refl, arith, ℕ, min, Bool, true, false}
use Rattle.arithmetic.proofs.Kit.{Float, ltb, ltb-true, ltb-false}
use Rattle.decimals.specs.Decimal.{decimal_text}
use Rattle.decimals.specs.Places.{in_sixteen}
use Rattle.decimals.proofs.TooLong.{as_if_fifteen}
use Rattle.decimals.proofs.shown.decimal_text.Goals as goal

at_most_fifteen : (k : ℕ) (x : Float) → in_sixteen (decimal_text (min k 15) x) ≡ in_sixteen (decimal_text k x)
at_most_fifteen k x = go (ltb k 15) refl
  where
    go : (b : Bool) → ltb k 15 ≡ b → in_sixteen (decimal_text (min k 15) x) ≡ in_sixteen (decimal_text k x)
    go true e = let few = ltb-true k 15 e in ap (λ (j : ℕ). in_sixteen (decimal_text j x)) (omega arith)
    go false e =
        let many = ltb-false k 15 e in
        ap (λ (j : ℕ). in_sixteen (decimal_text j x)) (omega arith) ∙ as_if_fifteen k x many

pub returns : goal.returns
returns c = c.text_of.ensures ∙ ap (λ (k : ℕ). in_sixteen (decimal_text k c.args.x)) c.min.ensures ∙ at_most_fifteen c.args.decimals c.args.x
