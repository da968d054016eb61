-- The names that most proofs here use, of the kit, of the crates below and of the definitions, from one place. Nothing is defined here.
pub use lib.Seq.{drop_at, length-sets, sets-eq, take-add, take-take}
unfoldable pub use Rattle.arithmetic.proofs.Kit.{le, lt, of_bits, of_int, sub}
pub use Rattle.arithmetic.proofs.Kit.{Bool, Float, List, SFits, T, [], ◌&&◌, ◌*◌, ◌++◌, ◌+◌, ◌-◌, ◌-ℤ◌, ◌<◌, ◌^◌, ◌||◌, ◌∙◌, ◌∷◌, ◌≡◌, ◌≢◌, ◌≤◌, add-one, add-zero, and_l, and_r, ap, append_assoc, ap₂, arith, binary64, cond, drop, eqb, false, inl, inr, is_false, is_true, le-ltb, leb, length, length-append, length-drop, length-replicate, length-take-le, lit≤, lt-ltb, lt_of_lt_of_le, ltb, ltb-false, ltb-true, minus, ne_eqb, rules, negsuc, not, not-false, pos, refl, replicate, subst, suc, sym, take, take_all, take_at, to_z, true, w32, zero, ℕ, ℤ}
pub use Rattle.refusal.proofs.Rows.{after_check, exactly-by, first-passed, numbers-append, then-accepted, then_append, then_next, then-none, then-rows}
pub use Rattle.refusal.specs.Outcomes.{Outcome, Row, ◌then◌, ◌⟫◌, accepted, numbers, passed, refused, row, outcome}
pub use Rattle.refusal.specs.declared.judge.Figures.{Figures}
unfoldable pub use Rattle.mast.specs.Judge.{air_outcome, judged}
pub use Rattle.mast.specs.Judge.{air_rows}
unfoldable pub use Rattle.sheet.specs.Laws.{lines_rows, lines_text, repeated}
pub use Rattle.sheet.specs.Laws.{HandedOut, line_rows, line_text}
pub use Rattle.sheet.specs.Over.{over, over_or_left}
unfoldable pub use Rattle.sheet.specs.Row.{figures_outcome, row_outcome, row_text}
pub use Rattle.sheet.specs.Row.{cell, is_too_wide, is_wider, row_texts, station_of_row}
unfoldable pub use Rattle.sheet.specs.Sheet.{celsius_of_row, rows, setting_sheet}
pub use Rattle.sheet.specs.Sheet.{bare, sheet_input_rows}
