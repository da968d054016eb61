-- A setting sheet on a page of 1,530 bytes, or its refusal. Assumes nothing.
use Rattle.std.specs.Prelude.{Err, Ok, Result}
use Rattle.arithmetic.proofs.Kit.{◌≡◌, sym, ap, ◌∙◌, List, ◌++◌, append-nil, ℕ, arith, Float, length, replicate, drop_of_length-le}
use lib.Seq.{sets-eq}
use Rattle.refusal.specs.declared.Refusal.{Refusal}
use Rattle.refusal.specs.Refusals.{number_of}
use Rattle.refusal.specs.Outcomes.{outcome}
use Rattle.pages.specs.Characters.{refusal_line}
use Rattle.pages.specs.Pages.{placed}
use Rattle.sheet.specs.Over.{over, over_or_left}
use Rattle.sheet.specs.Sheet.{setting_sheet, bare}
use Rattle.sheet.proofs.Outcomes.{bare-accepted, bare-refused}
use Rattle.sheet.proofs.GoodSheet.{good_sheet}
use Rattle.lines.specs.Records.{sheet_text}

-- rows that fill a page are the page
filled : (page rows : List ℕ) → length rows ≡ length page → over page 0 rows ≡ rows
unfolding placed
filled page rows e = sets-eq rows page 0 (omega arith) ∙ ap (λ (l : List ℕ). rows ++ l) (drop_of_length-le page (omega arith)) ∙ append-nil rows

-- by the answer k
module _ (h p u : Float) {k : Result (Unit {0}) Refusal} (answered : outcome k ≡ bare (setting_sheet h p u 1530)) where
  pub written : {rows : List ℕ} → rows ≡ over_or_left (replicate 1530 0) 0 (setting_sheet h p u 1530) → k ≡ Ok tt → rows ≡ sheet_text (setting_sheet h p u 1530)
  written {rows} e found =
      let good = bare-accepted (setting_sheet h p u 1530) (sym answered ∙ ap outcome found) in
      let text : List ℕ = good.0 in
      let whole : length text ≡ 1530 = (good_sheet.rows_of h p u 1530 text good.1).whole in
      e ∙ ap (over_or_left (replicate 1530 0) 0) good.1 ∙ filled (replicate 1530 0) text whole ∙ ap sheet_text (sym good.1)

  pub refused_rows : (c : Refusal) → k ≡ Err c → refusal_line (number_of c) ≡ sheet_text (setting_sheet h p u 1530)
  refused_rows c found = sym (ap sheet_text (bare-refused (setting_sheet h p u 1530) (sym answered ∙ ap outcome found)))
