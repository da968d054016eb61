use Rattle.std.specs.Prelude.{Some}
use Rattle.arithmetic.proofs.Kit.{ap, ◌∙◌}
use Rattle.roots.proofs.Entry.{some_where_served, none_where_not}
use Rattle.roots.proofs.quick.table_root.Goals as goal

pub returns-in_err-start : goal.returns-in_err-start
returns-in_err-start c = c.from_residual.ensures ∙ none_where_not c.args.tables.roots.now c.args.n c.in_err-start.ensures.served

pub returns : goal.returns
returns c = ap Some c.root.ensures ∙ some_where_served c.args.tables.roots.now c.args.n c.in_ok-start.ensures.served
