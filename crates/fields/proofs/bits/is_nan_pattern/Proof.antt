-- `fields::bits::is_nan_pattern` meets its contract, by the logic's two laws of a NaN's patterns.
-- Assumes nothing.
use Rattle.fields.proofs.Kit.{sym, ◌∙◌, binary64}
use lib.Ieee.Bits.{nan_bits_is, nan_bits_above}
use Rattle.fields.proofs.bits.is_nan_pattern.Statement.{statement}
use Rattle.fields.proofs.bits.is_nan_pattern.Tie as tie

pub is_nan_pattern_spec : {M : Type 1} → statement M
is_nan_pattern_spec = tie.close (tie.spec (λ c. sym (nan_bits_above binary64 c.args.bits) ∙ nan_bits_is binary64 c.args.bits))
