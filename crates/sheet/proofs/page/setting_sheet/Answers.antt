-- Check by check: whether there is room, the inputs, and then the rows.
use Rattle.std.specs.Prelude.{Result}
use Rattle.refusal.specs.declared.Refusal.{Refusal}
use Rattle.refusal.specs.Outcomes.{refusal}
use Rattle.sheet.proofs.Kit.{◌≡◌, sym, ap, ◌∙◌, arith, List, [], ℕ, ◌≤◌, ◌<◌, rules, lt-ltb, le-ltb, Float, length, refused, ◌⟫◌, outcome, passed, after_check, over_or_left, rows, sheet_input_rows, setting_sheet, bare}
use Rattle.sheet.proofs.Outcomes.{bare-accepted, bare-refused, rows-length}
use Rattle.pages.specs.Pages.{put}
use Rattle.sheet.proofs.OnAPage.{fills, put_whole}
use Rattle.sheet.proofs.page.setting_sheet.Goals.{In_ok-check_inputs}
use Rattle.sheet.proofs.page.setting_sheet.Goals as goal

module _ (h p u : Float) (page : List ℕ) where
  -- a page that is too short, and what comes after one that is not, by the check k of the inputs, which is found to be k'
  too_short : length page < 1530 → setting_sheet h p u (length page) ≡ refused 16 []
  unfolding setting_sheet
  too_short short = rw (lt-ltb (length page) 1530 short)

  checked_inputs : {k k' : Result (Unit {0}) Refusal} → 1530 ≤ length page → k ≡ k' → outcome k ≡ passed (sheet_input_rows h p u)
      → (outcome k' ⟫ (λ _. rows h p u 51)) ≡ setting_sheet h p u (length page)
  unfolding setting_sheet
  checked_inputs room told e = after_check (sheet_input_rows h p u) (rows h p u 51) told e ∙ sym (rw (le-ltb (length page) 1530 room))

pub returns-then-page-lt1530-clause-answered : goal.returns-then-page-lt1530-clause-answered
returns-then-page-lt1530-clause-answered c = let a = c.args in ap bare (sym (too_short a.altitude_m a.pressure_hpa a.humidity_percent a.page.now c.if-page-lt1530.true))

pub returns-then-page-lt1530-clause-written : goal.returns-then-page-lt1530-clause-written
returns-then-page-lt1530-clause-written c = let a = c.args in ap (over_or_left a.page.now 0) (sym (too_short a.altitude_m a.pressure_hpa a.humidity_percent a.page.now c.if-page-lt1530.true))

pub returns-in_err-check_inputs-clause-answered : goal.returns-in_err-check_inputs-clause-answered
returns-in_err-check_inputs-clause-answered c =
    let a = c.args in
    let e : outcome c.from_residual.result ≡ refusal c.in_err-check_inputs.field-0.0 = search rules in
    e ∙ ap bare (checked_inputs a.altitude_m a.pressure_hpa a.humidity_percent a.page.now c.if-page-lt1530.false c.in_err-check_inputs.was c.check_inputs.ensures)

pub returns-in_err-check_inputs-clause-written : goal.returns-in_err-check_inputs-clause-written
returns-in_err-check_inputs-clause-written c =
    let a = c.args in
    ap (over_or_left a.page.now 0) (checked_inputs a.altitude_m a.pressure_hpa a.humidity_percent a.page.now c.if-page-lt1530.false c.in_err-check_inputs.was c.check_inputs.ensures)

-- the outcome of the rows is the sheet's
rows_are : (c : In_ok-check_inputs) → rows c.args.altitude_m c.args.pressure_hpa c.args.humidity_percent 51 ≡ setting_sheet c.args.altitude_m c.args.pressure_hpa c.args.humidity_percent (length c.args.page.now)
rows_are c = let a = c.args in checked_inputs a.altitude_m a.pressure_hpa a.humidity_percent a.page.now c.if-page-lt1530.false c.in_ok-check_inputs.was c.check_inputs.ensures

pub returns-in_err-write_rows-clause-answered : goal.returns-in_err-write_rows-clause-answered
returns-in_err-write_rows-clause-answered c =
    let e : outcome c.from_residual-in_err-write_rows.result ≡ refusal c.in_err-write_rows.field-0.0 = search rules in
    e ∙ c.in_err-write_rows.ensures.outcome ∙ ap bare (rows_are (goal.at.returns-in_err-write_rows-clause-answered c).In_ok-check_inputs)

pub returns-in_err-write_rows-clause-written : goal.returns-in_err-write_rows-clause-written
returns-in_err-write_rows-clause-written c =
    let bad = bare-refused (rows c.args.altitude_m c.args.pressure_hpa c.args.humidity_percent 51) (sym c.in_err-write_rows.ensures.outcome) in
    ap (over_or_left c.args.page.now 0) (sym bad ∙ rows_are (goal.at.returns-in_err-write_rows-clause-written c).In_ok-check_inputs)

pub returns-clause-answered : goal.returns-clause-answered
returns-clause-answered c = c.in_ok-write_rows.ensures.outcome ∙ ap bare (rows_are (goal.at.returns-clause-answered c).In_ok-check_inputs)

pub returns-clause-written : goal.returns-clause-written
unfolding put
returns-clause-written c =
    let a = c.args in
    let text = bare-accepted (rows a.altitude_m a.pressure_hpa a.humidity_percent 51) (sym c.in_ok-write_rows.ensures.outcome) in
    let long = rows-length a.altitude_m a.pressure_hpa a.humidity_percent 51 text.0 text.1 in
    let own = c.write_rows.ensures.written text.0 text.1 in
    put_whole a.page.now text.0 _ _ c.put.ensures.put (fills text.0 c.new-rows.ensures (omega (arith, long)) (search rules)) (search rules)
    ∙ ap (over_or_left a.page.now 0) (sym text.1 ∙ rows_are (goal.at.returns-clause-written c).In_ok-check_inputs)
