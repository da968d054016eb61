-- Each place has its digit. Assumes nothing.
use Rattle.arithmetic.proofs.Kit.{◌≡◌, refl, ◌∙◌, ℕ, ◌-◌, ◌*◌, ◌/◌, ◌%◌, ◌^◌, arith}
use Rattle.std.proofs.lemmas.List.FromFn.{fill_by_all}
use Rattle.std.specs.List.{range_with_len}
use mathlib.Core.List.{map}
use Rattle.pages.specs.Characters.{hex_digit, hex_digits}
use Rattle.pages.proofs.digits.digits_of.Goals as goal

-- digit i of n
abbrev digit : ℕ → ℕ → ℕ
digit n i = hex_digit (n / 2 ^ (4 * (15 - i)) % 16)

sixteen : (n : ℕ) → map (digit n) (range_with_len 0 16) ≡ hex_digits 16 n
unfolding hex_digits
sixteen n = refl

pub returns : goal.returns
returns c = fill_by_all (digit c.args.n) c.loop-i.digits 16 0 c.loop-i.invariant.sized (λ k h. c.loop-i.invariant.filled k (omega arith)) ∙ sixteen c.args.n
