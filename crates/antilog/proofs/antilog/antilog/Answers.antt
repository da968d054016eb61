-- The digits above the point scale the root of those below it. Assumes nothing.
use Rattle.arithmetic.proofs.Kit.{◌≡◌, refl, ap₂, ◌∙◌, ℕ, ◌^◌, ℤ, pos, ◌-ℤ◌}
use Rattle.arithmetic.specs.Whole.{floor_div, floor_mod, word_value}
use Rattle.arithmetic.specs.Nearest.{nearest_scaled}
use Rattle.arithmetic.specs.Places.{places}
use Rattle.antilog.specs.Antilog.{antilog_root, antilog}
use Rattle.antilog.proofs.antilog.antilog.Goals as goal

antilog_is : (p : ℕ) (P : ℤ) → nearest_scaled (antilog_root p (floor_mod P (2 ^ p))) (floor_div P (2 ^ p) -ℤ pos 62) ≡ antilog p P
unfolding antilog
antilog_is p P = refl

pub returns : goal.returns
returns c =
    c.nearest.ensures ∙ ap₂ (λ (f : ℕ) (e : ℤ). nearest_scaled (antilog_root places f) e) c.of.ensures.fraction c.of.ensures.scale
    ∙ antilog_is places (word_value places c.args.w)
