-- `fields::bits::pattern` meets its contract: only a NaN differs from itself. Assumes nothing.
use Rattle.fields.proofs.Kit.{sym, ap, subst, rules, T, binary64, to_bits, differs_from_itself}
use Rattle.arithmetic.proofs.Parts.{not_nan}
use Rattle.fields.proofs.bits.pattern.Statement.{statement}
use Rattle.fields.proofs.bits.pattern.Tie as tie

pub pattern_spec : {M : Type 1} → statement M
pattern_spec =
    tie.close (tie.spec (λ c. not_nan c.args.x c.if-x.false)
    (λ c. unfold to_bits in ap (to_bits binary64) (sym (differs_from_itself c.args.x (subst T (sym c.if-x.true) tt))))
    (λ c. search rules))
