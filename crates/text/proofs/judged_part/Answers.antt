-- There are no more bytes to take than there are. Assumes nothing.
use Rattle.arithmetic.proofs.Kit.{ap, ◌∙◌, ℕ, take}
use Rattle.std.proofs.lemmas.List.{take_min}
use Rattle.text.proofs.judged_part.Goals as goal

pub returns : goal.returns
returns c = let s = c.args.«record».now in ap (λ (n : ℕ). take n s) c.min.ensures ∙ take_min 256 s
