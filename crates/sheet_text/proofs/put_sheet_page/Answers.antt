-- By the answer of the setting sheet. Assumes nothing.
use Rattle.arithmetic.proofs.Kit.{◌≡◌, sym, ap, ◌∙◌, List, ◌++◌, append-nil, drop_of_length-le, ℕ, arith, length, replicate, rules}
use lib.Seq.{sets-eq}
use Rattle.std.specs.Prelude.{Err, Ok, Result}
use Rattle.refusal.specs.declared.Refusal.{Refusal}
use Rattle.refusal.specs.Refusals.{number_of}
use Rattle.refusal.specs.Outcomes.{accepted, outcome}
use Rattle.record.specs.declared.entries.Readings.{Readings}
use Rattle.atmosphere.specs.declared.given.Reading.{Reading}
use Rattle.sheet.specs.Over.{over, over_or_left}
use Rattle.sheet.specs.Sheet.{setting_sheet, bare}
use Rattle.sheet.proofs.Outcomes.{bare-accepted, bare-refused}
use Rattle.sheet.proofs.GoodSheet.{good_sheet}
use Rattle.pages.specs.Pages.{placed, put}
use Rattle.pages.proofs.Putting.{puts}
use Rattle.sheet_text.specs.declared.rows.Site.{Site}
use Rattle.sheet_text.specs.Lines.{heading, row_lines, limit_lines}
use Rattle.sheet_text.specs.SheetText.{refused_sheet, pinned, sheet_page}
use Rattle.sheet_text.proofs.put_sheet_page.Goals as goal

-- rows that fill a page are the page
filled : (page rows : List ℕ) → length rows ≡ length page → over page 0 rows ≡ rows
unfolding placed
filled page rows e =
    sets-eq rows page 0 (omega arith) ∙ ap (λ (l : List ℕ). rows ++ l) (drop_of_length-le page (omega arith)) ∙ append-nil rows

-- by the answer k
module _ (s : Site) {k : Result (Unit {0}) Refusal} (answered : outcome k ≡ bare (setting_sheet s.altitude_m s.pressure_hpa s.humidity_percent 1530)) where
  module _ {rows : List ℕ} (e : rows ≡ over_or_left (replicate 1530 0) 0 (setting_sheet s.altitude_m s.pressure_hpa s.humidity_percent 1530))
      {x : Unit {0}} (found : k ≡ Ok x) where
    good : (rows : List ℕ) × (setting_sheet s.altitude_m s.pressure_hpa s.humidity_percent 1530 ≡ accepted rows)
    good = bare-accepted (setting_sheet s.altitude_m s.pressure_hpa s.humidity_percent 1530) (sym answered ∙ ap outcome found)

    is : rows ≡ good.0
    is =
        e ∙ ap (over_or_left (replicate 1530 0) 0) good.1
        ∙ filled (replicate 1530 0) good.0 (good_sheet.rows_of s.altitude_m s.pressure_hpa s.humidity_percent 1530 good.0 good.1).whole

    pub written : (r : Readings) (resolved : Reading) → heading s r resolved ++ row_lines s rows 51 ++ limit_lines s ≡ sheet_page s r resolved
    unfolding sheet_page
    written r resolved =
        ap (λ (l : List ℕ). heading s r resolved ++ row_lines s l 51 ++ limit_lines s) is ∙ ap (pinned s r resolved) (sym good.1)

  pub refused : (r : Readings) (resolved : Reading) (c : Refusal) → k ≡ Err c → refused_sheet s (number_of c) ≡ sheet_page s r resolved
  unfolding sheet_page
  refused r resolved c found =
      ap (pinned s r resolved) (sym (bare-refused (setting_sheet s.altitude_m s.pressure_hpa s.humidity_percent 1530) (sym answered ∙ ap outcome found)))

pub returns-in-Ok : goal.returns-in-Ok
returns-in-Ok c =
    let a = c.args in
    let pieces : c.put_limits.new.page ≡ put a.page.now (heading a.site a.readings a.resolved ++ row_lines a.site c.setting_sheet.new.page 51 ++ limit_lines a.site) = search (rules, puts) in
    pieces ∙ ap (put a.page.now) (written a.site c.setting_sheet.ensures.answered c.setting_sheet.ensures.written c.in-Ok.is a.readings a.resolved)

pub returns-in-Err : goal.returns-in-Err
returns-in-Err c =
    let a = c.args in
    c.put_refused_sheet.ensures
    ∙ ap (put a.page.now) (refused a.site c.setting_sheet.ensures.answered a.readings a.resolved c.in-Err.refusal c.in-Err.is)
