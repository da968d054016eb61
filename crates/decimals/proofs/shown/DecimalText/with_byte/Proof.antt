-- `decimals::shown::DecimalText::with_byte` meets its contract. Assumes nothing.
use Rattle.arithmetic.proofs.Kit.{rules}
use Rattle.decimals.proofs.Standing.{placed, overflown}
use Rattle.decimals.proofs.shown.DecimalText.with_byte.Statement.{statement}
use Rattle.decimals.proofs.shown.DecimalText.with_byte.Tie as tie

pub with_byte_spec : {M : Type 1} → statement M
with_byte_spec =
    tie.close (tie.spec (λ c. search rules)
    (λ c. search rules)
    (λ c. search rules)
    (λ c. record { stands = λ t e. placed c.args.self t c.args.b e (search rules) })
    (λ c. record { stands = λ t e. overflown c.args.self t c.args.b e (search rules) }))
