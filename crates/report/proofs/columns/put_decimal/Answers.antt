use Rattle.arithmetic.proofs.Kit.{ap, ◌∙◌}
use Rattle.decimals.specs.Decimal.{decimal_text}
use Rattle.pages.specs.Pages.{put}
use Rattle.report.proofs.ColumnLines.{too_wide, standing}
use Rattle.report.proofs.columns.put_decimal.Goals as goal

pub returns-in-Some : goal.returns-in-Some
returns-in-Some c =
    c.put.ensures.put
    ∙ ap (put c.args.page.now) (standing _ (decimal_text c.args.decimals c.args.x) c.decimal_text-text.ensures c.in-Some.ensures.0)

pub returns-in-None : goal.returns-in-None
returns-in-None c =
    c.put-in-None.ensures.put ∙ ap (put c.args.page.now) (too_wide _ (decimal_text c.args.decimals c.args.x) c.decimal_text-text.ensures c.in-None.ensures)
