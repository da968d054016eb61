-- The machine reads a signed number from its bits as `count_of` does.
use Rattle.std.proofs.Common.{◌∙◌, arith}
use Rattle.thousandths.proofs.Words.{to_z-count, reads-back}
use Rattle.thousandths.proofs.count_from.Goals as goal

pub returns : goal.returns
returns c = reads-back c.args.word c.cast_signed.result (omega arith) (c.cast_signed.ensures ∙ to_z-count c.args.word (omega arith))
