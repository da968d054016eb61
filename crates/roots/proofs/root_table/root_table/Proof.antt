-- `roots::root_table::root_table` meets its contract: antt computes the rule at all numbers, and its values are the constant's. Assumes nothing.
use Rattle.arithmetic.proofs.Kit.{refl, size}
use Rattle.roots.specs.Root.{root, root_in}
use Rattle.roots.specs.Tables.{values, entry, root_table}
use Rattle.roots.proofs.root_table.root_table.Statement.{statement}
use Rattle.roots.proofs.root_table.root_table.Tie as tie

pub root_table_spec : {M : Type 1} → statement M
root_table_spec = tie.close (tie.spec (λ c. unfold root_table values entry root root_in size in refl))
