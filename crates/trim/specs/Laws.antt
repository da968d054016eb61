-- What may be relied on of the answer, document 02: it is a change that gives another class and no change before it does; none is answered exactly if none
-- of the 800 does; a record's own refusal comes first, and then 22. Definitions only.
use Rattle.std.specs.Prelude.{ℕ, ◌+◌, ◌*◌, ◌≤◌, ◌<◌, ◌≡◌, ◌≢◌, false, List, Some}
use Rattle.refusal.specs.Outcomes.{accepted}
use Rattle.fields.specs.Fields.{temperature, measured_pressure}
use Rattle.record.specs.Readings.{readings, read_record}
use Rattle.record.specs.Entries.{entry_of, value_or_zero}
use Rattle.station.specs.Figures.{figures_of}
use Rattle.mast.specs.Judge.{resolved}
use Rattle.trim.specs.declared.changes.Quantity.{Quantity}
use Rattle.trim.specs.declared.changes.Quantity.TheVariants.{Temperature, MeasuredPressure}
use Rattle.trim.specs.declared.changes.Direction.{Direction}
use Rattle.trim.specs.declared.changes.Direction.TheVariants.{Up, Down}
use Rattle.trim.specs.declared.changes.Change.{Change}
use Rattle.trim.specs.declared.changes.Start.{Start}
use Rattle.trim.specs.Classes.{trim_class, class_of}
use Rattle.trim.specs.Changes.{changed}
use Rattle.trim.specs.InOrder.{changes, first_of}
use Rattle.trim.specs.Search.{Next}

-- ---- the 800 changes, and which of two comes first: the smaller k, and at equal k temperature before pressure, up before down
pub record OneOfThe800 (x : Change) : Type 0 where
  pub at_least : 1 ≤ x.tenths
  pub at_most : x.tenths ≤ 200

abbrev pub rank : Quantity → Direction → ℕ
rank Temperature Up = 0
rank Temperature Down = 1
rank MeasuredPressure Up = 2
rank MeasuredPressure Down = 3

abbrev pub place : Change → ℕ
place x = 4 * x.tenths + rank x.quantity x.direction

-- ---- the changed readings are accepted with the class n, and it is another
pub record Gives (s : Start) (x : Change) (n : ℕ) : Type 0 where
  pub class : class_of (changed s x) ≡ accepted n
  pub another : n ≢ s.class

pub record FirstToGive (s : Start) (x : Change) (n : ℕ) : Type 0 where
  pub one_of : OneOfThe800 x
  pub gives : Gives s x n
  pub none_before : (y : Change) (m : ℕ) → OneOfThe800 y → place y < place x → Gives s y m → ⊥

abbrev pub NoneGives : Start → Type 0
NoneGives s = (y : Change) (m : ℕ) → OneOfThe800 y → Gives s y m → ⊥

-- ---- a record that is accepted, with temperature and measured pressure
pub record Asks (bytes : List ℕ) (s : Start) : Type 0 where
  pub read : read_record false bytes ≡ accepted s.readings
  pub class : class_of s.readings ≡ accepted s.class
  pub temperature_there : entry_of s.readings temperature ≡ Some s.temperature_c
  pub pressure_there : entry_of s.readings measured_pressure ≡ Some s.pressure_hpa

-- where both readings are there
abbrev pub start_at : List ℕ → Start
start_at bytes =
    let r = readings bytes in
    record {
      readings = r;
      temperature_c = value_or_zero (entry_of r temperature);
      pressure_hpa = value_or_zero (entry_of r measured_pressure);
      class = trim_class (figures_of (resolved r)).density_kg_m3;
    }

abbrev pub next_for : List ℕ → Next
next_for bytes = record { class = (start_at bytes).class; turn = first_of (start_at bytes) changes }
