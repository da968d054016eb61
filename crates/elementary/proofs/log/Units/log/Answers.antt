-- The word with the bits of its mantissa. Assumes nothing.
use Rattle.arithmetic.proofs.Kit.{◌≡◌, sym, ap, ◌∙◌, subst, ℕ, ◌^◌, ◌<◌}
use Rattle.arithmetic.specs.Whole.{as_word}
use Rattle.antilog.specs.Log.{log_bits, mantissa_of, word_with, word_of_units}
use Rattle.arithmetic.specs.Places.{places}
use Rattle.antilog.proofs.Range.{log_bits-lt}
use Rattle.elementary.proofs.log.Units.log.Goals as goal

word_is : (n b : ℕ) → b ≡ log_bits places (mantissa_of n) → as_word places (word_with places n b) ≡ as_word places (word_of_units places n)
unfolding word_of_units
word_is n b e = ap (λ (x : ℕ). as_word places (word_with places n x)) e

pub word_with-requires : goal.word_with-requires
word_with-requires c = subst (λ (x : ℕ). x < 2 ^ places) (sym c.log_bits.ensures) (log_bits-lt places _)

pub returns : goal.returns
returns c = (c.word_with.ensures.0 ∙ word_is _ _ (c.log_bits.ensures ∙ ap (log_bits places) c.mantissa.ensures.value), c.word_with.ensures.1)
