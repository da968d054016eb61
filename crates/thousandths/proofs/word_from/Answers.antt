-- The word of a count is the word of its bits.
use Rattle.std.proofs.Common.{◌≡◌, ◌∙◌, refl, ap, ℤ, pos, negsuc, w32, of_z}
use Rattle.std.proofs.lemmas.Int.{to_z-of_z}
use Rattle.thousandths.specs.Thousandths.{twos_complement}
use Rattle.thousandths.proofs.word_from.Goals as goal

bits : (z : ℤ) → of_z w32 z ≡ twos_complement z
unfolding twos_complement
bits (pos n) = refl
bits (negsuc n) = refl

pub returns : goal.returns
returns c = c.cast_unsigned.ensures ∙ ap (of_z w32) (to_z-of_z w32 c.args.count c.ranges.count) ∙ bits c.args.count
