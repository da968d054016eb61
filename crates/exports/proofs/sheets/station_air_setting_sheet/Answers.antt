-- A refused sheet has one value at most, so that the first is all.
use Rattle.std.proofs.Common.{arith, sym, ap, ◌∙◌, List, length, take, Float}
use Rattle.sheet.specs.Sheet.{setting_sheet}
use Rattle.sheet.proofs.Outcomes.{bare-refused}
use Rattle.exports.specs.Lent.{handed_out}
use Rattle.exports.proofs.Room.{roomy}
use Rattle.exports.proofs.SheetValues.{first-is-all}
use Rattle.exports.proofs.sheets.station_air_setting_sheet.Goals as goal

pub returns-in-Err-clause-lent_after : goal.returns-in-Err-clause-lent_after
returns-in-Err-clause-lent_after c =
    let x = c.args in
    let why = bare-refused (setting_sheet x.altitude_m x.pressure_hpa x.humidity_percent (length x.page.now)) (sym c.in-Err.ensures.answered) in
    let one = first-is-all x.altitude_m x.pressure_hpa x.humidity_percent (length x.page.now) why in
    rw (roomy 1 x.lent.now (omega arith), why)
    (c.put_first.ensures ∙ ap (λ (vs : List Float). handed_out vs x.lent.now) (ap (take 1) c.handed_out.ensures ∙ one))
