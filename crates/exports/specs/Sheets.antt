-- The setting sheet on a lent page, with a lent place for a refusal's value. Definitions only.
use Rattle.std.specs.Prelude.{ℕ, List, length, Float}
use Rattle.refusal.specs.Outcomes.{Outcome}
use Rattle.sheet.specs.Sheet.{setting_sheet}
use Rattle.exports.specs.Lent.{with_room}

abbrev pub sheet_in : List Float → Float → Float → Float → List ℕ → Outcome (List ℕ)
sheet_in lent h p u page = with_room 1 lent (setting_sheet h p u (length page))
