-- The smallest change that gives another trim class, document 02: the first of the 800 changes in their order. Definitions only.
use Rattle.std.specs.Prelude.{ℕ, false, List, [], Float, None, Option, Some}
use Rattle.refusal.specs.Outcomes.{Outcome, accepted, refused, ◌⟫◌}
use Rattle.record.specs.declared.entries.Readings.{Readings}
use Rattle.fields.specs.Fields.{temperature, measured_pressure}
use Rattle.record.specs.Readings.{read_record}
use Rattle.record.specs.Entries.{entry_of}
use Rattle.trim.specs.declared.changes.Start.{Start}
pub use Rattle.trim.specs.declared.search.Next.{Next}
use Rattle.trim.specs.Classes.{class_of}
use Rattle.trim.specs.InOrder.{changes, first_of}

-- ---- of accepted readings with temperature and measured pressure
unfoldable pub next_from : Start → Outcome Next
next_from s = accepted (record { class = s.class; turn = first_of s changes })

-- 22: no temperature or no measured pressure
abbrev pub start_of : Readings → ℕ → (Option Float) → (Option Float) → Outcome Start
start_of r c (Some t) (Some p) = accepted (record { readings = r; temperature_c = t; pressure_hpa = p; class = c })
start_of r c (Some t) None = refused 22 []
start_of r c None p = refused 22 []

unfoldable pub next_with : Readings → ℕ → Outcome Next
next_with r c = start_of r c (entry_of r temperature) (entry_of r measured_pressure) ⟫ next_from

-- ---- of readings and of a record: their own refusal comes first
unfoldable pub next_of : Readings → Outcome Next
next_of r = class_of r ⟫ next_with r

unfoldable pub next_trim_class : List ℕ → Outcome Next
next_trim_class s = read_record false s ⟫ next_of
