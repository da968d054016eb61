-- `load_text::blocks::record_numbered` meets its contract. Assumes nothing.
use Rattle.load_text.proofs.Kit.{rules}
use Rattle.load_text.proofs.Lent.{holds}
use Rattle.load_text.proofs.blocks.record_numbered.Statement.{statement}
use Rattle.load_text.proofs.blocks.record_numbered.Tie as tie

returns : tie.Need-returns
returns c =
    let wrote = c in
    holds wrote.args.number c.length_of-len.ensures wrote.write_load_record.ensures.0 wrote.write_load_record.ensures.1

pub record_numbered_spec : {M : Type 1} → statement M
record_numbered_spec = tie.close (tie.spec (λ c. search rules)
    (λ c κs. search rules)
    (λ c κs. search rules)
    returns)
