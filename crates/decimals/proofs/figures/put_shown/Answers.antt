-- The text fits in sixteen places or is too wide. Assumes nothing.
use Rattle.std.proofs.Common.{◌∙◌, ap, ◌≤◌, ◌<◌}
use Rattle.pages.specs.Pages.{put}
use Rattle.decimals.specs.Decimal.{decimal_text}
use Rattle.decimals.proofs.Places.{too_long_lem, not_long, its_text, too_wide, all_shown}
use Rattle.decimals.proofs.figures.put_shown.Goals as goal

pub returns-in-Some : goal.returns-in-Some
returns-in-Some c =
    let a = c.args in
    let t = decimal_text a.decimals a.x in
    let is = c.decimal_text-text.ensures in
    let few : c.decimal_text-text.result.len ≤ 16 = c.in-Some.ensures.0 in
    c.put.ensures.put ∙ ap (put a.page.now) (c.in-Some.ensures.1 ∙ its_text t is few ∙ all_shown a.decimals a.x (not_long t is few))

pub returns-in-None : goal.returns-in-None
returns-in-None c =
    let a = c.args in
    let long : 16 < c.decimal_text-text.result.len = c.in-None.ensures in
    c.put-in-None.ensures.put ∙ ap (put a.page.now) (too_wide a.decimals a.x (too_long_lem (decimal_text a.decimals a.x) c.decimal_text-text.ensures long))
