-- A row of the setting sheet, document 02, K1: 30 bytes in ASCII with the figures of a station at one temperature, or the number of a refusal.
-- Definitions only.
use Rattle.std.specs.Prelude.{ℕ, ◌-◌, Bool, ◌||◌, List, [], ◌∷◌, ◌++◌, ltb, Float, length, replicate}
use Rattle.decimals.specs.Decimal.{decimal_text}
use Rattle.decimals.specs.Places.{in_sixteen}
use Rattle.sheet.specs.declared.row.RowTexts.{RowTexts}
use Rattle.refusal.specs.Outcomes.{Outcome, accepted, ◌⟫◌, row, ◌then◌}
use Rattle.atmosphere.specs.declared.given.Reading.TheVariants.{Given}
use Rattle.refusal.specs.declared.judge.Figures.{Figures}
use Rattle.station.specs.declared.resolved.Resolved.{Resolved}
use Rattle.mast.specs.Judge.{air_outcome}

-- ---- a figure with k decimals in a column of w places, at the right, and what stands after the column
abbrev pub cell : ℕ → ℕ → ℕ → Float → List ℕ
cell w k end x = let t = decimal_text k x in replicate (w - length t) 32 ++ t ++ end ∷ []

abbrev pub is_wider : ℕ → ℕ → Float → Bool
is_wider w k x = ltb w (length (decimal_text k x))

-- ---- temperature in 6 places with one decimal, density in 7 with four, sound speed in 6 with one, matched altitude in 7 as whole metres, one blank
-- between, a newline last
unfoldable pub row_text : Float → Figures → List ℕ
row_text t f =
    cell 6 1 32 t ++ cell 7 4 32 f.density_kg_m3 ++ cell 6 1 32 f.speed_of_sound_mps ++ cell 7 0 10 f.density_matched_altitude_m

abbrev pub is_too_wide : Float → Figures → Bool
is_too_wide t f = is_wider 6 1 t || is_wider 7 4 f.density_kg_m3 || is_wider 6 1 f.speed_of_sound_mps || is_wider 7 0 f.density_matched_altitude_m

-- the texts of the four figures, in sixteen places each
abbrev pub row_texts : Float → Figures → RowTexts
row_texts t f = record {
  temperature = in_sixteen (decimal_text 1 t);
  density = in_sixteen (decimal_text 4 f.density_kg_m3);
  sound = in_sixteen (decimal_text 1 f.speed_of_sound_mps);
  altitude = in_sixteen (decimal_text 0 f.density_matched_altitude_m);
}

-- 17: a figure wider than its column
unfoldable pub figures_outcome : Float → Figures → Outcome (List ℕ)
figures_outcome t f = (row (is_too_wide t f) 17 [] ∷ []) then accepted (row_text t f)

-- ---- temperature and pressure count as given, with no default band
abbrev pub station_of_row : Float → Float → Float → Float → Resolved
station_of_row h p u t = record { altitude_m = h; temperature = Given t; pressure = Given p; humidity_percent = u }

-- 14 and 15 are the station's, and 17 comes after them
unfoldable pub row_outcome : Float → Float → Float → Float → Outcome (List ℕ)
row_outcome h p u t = air_outcome (station_of_row h p u t) ⟫ figures_outcome t
