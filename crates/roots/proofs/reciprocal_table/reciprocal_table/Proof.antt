-- `roots::reciprocal_table::reciprocal_table` meets its contract: antt computes the rule at all numbers, and its values are the constant's. Assumes nothing.
use Rattle.arithmetic.proofs.Kit.{refl, size}
use Rattle.roots.specs.Root.{root, root_in}
use Rattle.roots.specs.Tables.{values, entry, reciprocal_table}
use Rattle.roots.proofs.reciprocal_table.reciprocal_table.Statement.{statement}
use Rattle.roots.proofs.reciprocal_table.reciprocal_table.Tie as tie

pub reciprocal_table_spec : {M : Type 1} → statement M
reciprocal_table_spec = tie.close (tie.spec (λ c. unfold reciprocal_table values entry root root_in size in refl))
