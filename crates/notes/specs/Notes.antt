-- The notes of a report in their order: a note is printed exactly if its row holds. `point` says that the altitude was typed with a point that may mean
-- thousands. Definitions only.
use Rattle.std.specs.Prelude.{ℕ, Bool, List, ◌++◌}
use Rattle.refusal.specs.Outcomes.{Outcome}
use Rattle.refusal.specs.declared.judge.Figures.{Figures}
use Rattle.record.specs.declared.entries.Readings.{Readings}
use Rattle.mast.specs.Judge.{air_outcome}
use Rattle.notes.specs.declared.given.Given.{Given}
use Rattle.notes.specs.Given.{given_by}
use Rattle.notes.specs.Words.{Note, printed}
use Rattle.notes.specs.Used.{as_given, used_notes}
use Rattle.notes.specs.Pressures.{pressure_notes}
use Rattle.notes.specs.Ranges.{range_notes}
use Rattle.notes.specs.Doubts.{doubt_notes}

abbrev pub notes_of : Bool → Given → Outcome Figures → Figures → List Note
notes_of point g air f = used_notes g f air ++ pressure_notes g f ++ range_notes g f ++ doubt_notes g f point

unfoldable pub notes : Bool → Readings → Figures → List Note
notes point r f = notes_of point (given_by r) (air_outcome (as_given r)) f

unfoldable pub note_lines : Bool → Readings → Figures → List ℕ
note_lines point r f = printed (notes point r f)
