-- The text, or `none`. Assumes nothing.
use Rattle.arithmetic.proofs.Kit.{refl, sym, ap, ◌∙◌, arith, eqb-true, eqb-false}
use Rattle.pages.specs.Pages.{put}
use Rattle.pages.proofs.Putting.{put_put}
use Rattle.decimals.specs.Decimal.{decimal_text}
use Rattle.lines.proofs.ShownText.{few_bytes, none_shown, shown}
use Rattle.lines.proofs.decimal.put_shown.Goals as goal

pub returns-then-is_empty : goal.returns-then-is_empty
returns-then-is_empty c =
    let a = c.args in
    let t = decimal_text a.decimals a.x in
    let bytes = few_bytes t c.decimal_text-text.ensures c.as_bytes.result _ refl c.as_bytes.ensures c.unwrap_or-bytes.ensures in
    c.put.ensures.put ∙ ap (put a.page.now) (none_shown t bytes (eqb-true _ 0 (sym c.is_empty.ensures ∙ c.if-is_empty.true)))

pub returns-else-is_empty : goal.returns-else-is_empty
returns-else-is_empty c =
    let a = c.args in
    let t = decimal_text a.decimals a.x in
    let bytes = few_bytes t c.decimal_text-text.ensures c.as_bytes.result _ refl c.as_bytes.ensures c.unwrap_or-bytes.ensures in
    rw (c.put-else-is_empty-2.ensures.put, c.put-else-is_empty.ensures.put)
    (put_put _ _ _ ∙ ap (put a.page.now) (shown t bytes (omega (arith, eqb-false _ 0 (sym c.is_empty.ensures ∙ c.if-is_empty.false)))))
