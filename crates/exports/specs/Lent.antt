-- The status that a function returns, and what it leaves in a lent array of doubles, in a lent mark and in a lent length. Definitions only.
use Rattle.std.specs.Prelude.{ℕ, Bool, cond, List, [], ◌∷◌, ◌++◌, ltb, length, drop, Float}
use Rattle.refusal.specs.declared.inverse.Station.{Station}
use Rattle.refusal.specs.Outcomes.{Outcome, accepted, refused}
use Rattle.refusal.specs.declared.judge.Figures.{Figures}

-- ---- the status
-- 255, before anything else: a lent array has fewer places than are needed
unfoldable pub with_room : {A B : Type 0} → ℕ → List B → Outcome A → Outcome A
with_room needed lent o = cond (ltb (length lent) needed) (refused 255 []) o

-- 0, or the number of what is refused
abbrev pub status_of : {A : Type 0} → Outcome A → ℕ
status_of (accepted a) = 0
status_of (refused n vs) = n

-- ---- a lent array
-- the first places hold what is handed out
abbrev pub handed_out : {A : Type 0} → List A → List A → List A
handed_out values lent = values ++ drop (length values) lent

-- the answer's doubles, or the values of what is refused
abbrev pub left_in : {A : Type 0} → (A → List Float) → List Float → Outcome A → List Float
left_in doubles lent (accepted a) = handed_out (doubles a) lent
left_in doubles lent (refused n vs) = handed_out vs lent

-- where only what is refused hands out doubles
abbrev pub values_after : {A : Type 0} → List Float → Outcome A → List Float
values_after = left_in (λ a. [])

-- ---- an answer's doubles, in the order of the structs
abbrev pub station_values : Station → List Float
station_values s = s.altitude_m ∷ s.temperature_c ∷ s.pressure_hpa ∷ []

abbrev pub figure_values : Figures → List Float
figure_values f =
    f.altitude_m ∷ f.temperature_c ∷ f.pressure_hpa ∷ f.density_kg_m3 ∷ f.speed_of_sound_mps ∷ f.pressure_altitude_m ∷ f.density_matched_altitude_m ∷
    f.vapor_mole_fraction ∷ []

-- ---- a lent mark: that of the figures; what is refused leaves it as it was
abbrev pub mark_or : Bool → Outcome Figures → Bool
mark_or before (accepted f) = f.in_cipm_range
mark_or before (refused n vs) = before

-- ---- a lent length: what is written; what is refused leaves it as it was
abbrev pub length_or : ℕ → Outcome ℕ → ℕ
length_or before (accepted n) = n
length_or before (refused number values) = before
