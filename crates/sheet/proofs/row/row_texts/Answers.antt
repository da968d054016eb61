-- The tests of the four lengths are those of the columns.
use Rattle.std.specs.Prelude.{Some, None}
use Rattle.sheet.proofs.Kit.{Bool, sym, ap, ◌∙◌, cond, row_texts}
use Rattle.sheet.proofs.Cells.{tests_are}
use Rattle.sheet.proofs.row.row_texts.Goals as goal

pub returns-then-temperature-density : goal.returns-then-temperature-density
returns-then-temperature-density c =
    let a = c.args in
    let tested = tests_are a.temperature_c a.figures c.decimal_text-temperature.ensures c.decimal_text-density.ensures c.decimal_text-sound.ensures c.decimal_text-altitude.ensures in
    ap (λ (b : Bool). cond b None (Some (row_texts a.temperature_c a.figures))) (sym c.if-temperature-density.true ∙ tested)

pub returns : goal.returns
returns c =
    let a = c.args in
    let tested = tests_are a.temperature_c a.figures c.decimal_text-temperature.ensures c.decimal_text-density.ensures c.decimal_text-sound.ensures c.decimal_text-altitude.ensures in
    (λ i. Some (record { temperature = c.decimal_text-temperature.ensures i; density = c.decimal_text-density.ensures i; sound = c.decimal_text-sound.ensures i; altitude = c.decimal_text-altitude.ensures i }))
    ∙ ap (λ (b : Bool). cond b None (Some (row_texts a.temperature_c a.figures))) (sym c.if-temperature-density.false ∙ tested)
