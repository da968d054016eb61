-- The rows, or the refusal. Assumes nothing.
use Rattle.arithmetic.proofs.Kit.{ap, ◌∙◌}
use Rattle.pages.specs.Pages.{put}
use Rattle.lines.proofs.Sheet.{written, refused_rows}
use Rattle.lines.proofs.records.put_sheet.Goals as goal

pub returns-in-Ok : goal.returns-in-Ok
returns-in-Ok c =
    let a = c.args in
    c.put.ensures.put ∙ ap (put a.page.now) (written a.altitude_m a.pressure_hpa a.humidity_percent c.setting_sheet.ensures.answered c.setting_sheet.ensures.written c.in-Ok.is)

pub returns-in-Err : goal.returns-in-Err
returns-in-Err c =
    let a = c.args in
    c.put_refusal.ensures ∙ ap (put a.page.now) (refused_rows a.altitude_m a.pressure_hpa a.humidity_percent c.setting_sheet.ensures.answered _ c.in-Err.is)
