-- What the page of promises spells out, in the words of the proofs: statements, and what only these cite. Definitions only.
use Rattle.std.specs.Prelude.{Some, Ok}
use Rattle.arithmetic.proofs.Kit.{ℕ, ◌≤◌, List, List-as-Memᴰ, length, ◌≡◌, true, false, Float}
use Rattle.park_text.specs.ParkText.{park_text}
use Rattle.park_text.specs.declared.units.Unit.{Unit}
use Rattle.park_text.specs.Word.{Says}
use Rattle.refusal.specs.Outcomes.{accepted}
use Rattle.record.specs.declared.entries.Readings.{Readings}
use Rattle.record.specs.Readings.{read_record}
use Rattle.record.specs.Entries.{entry_of}
use Rattle.writer.specs.Records.{record_of}
use Rattle.mast.specs.Judge.{judged, judge}
use Rattle.park_text.specs.Laws.{Nearest, Typed}
use Rattle.park_text.specs.Understood.{understand}

-- the program's page has room for it
abbrev pub HasRoom : Type 0
HasRoom = (ws : List (List ℕ)) → length (park_text ws) ≤ 4096

pub record Said (w : List ℕ) : Type 0 where
  pub meaning : ℕ
  pub unit : Unit
  pub decimal : List ℕ
  pub says : Says w meaning unit decimal

-- the words ws gave the readings r
pub record Tied (ws : List (List ℕ)) (r : Readings) : Type 0 where
  -- every word says a number of a meaning in a unit
  pub every_word : (w : List ℕ) → List-as-Memᴰ w ws → Said w
  -- whose reading is the double nearest to it
  pub is_reading : (w : List ℕ) (m : ℕ) (u : Unit) (d : List ℕ) → List-as-Memᴰ w ws → Says w m u d → Nearest r m u d
  -- and there is no other reading
  pub was_typed : (m : ℕ) (x : Float) → entry_of r m ≡ Some x → Typed ws m
  -- the record of the readings is read as them by both readers, and judged as they are
  pub read_strictly : read_record true (record_of r) ≡ accepted r
  pub read_in_any_order : read_record false (record_of r) ≡ accepted r
  pub is_judged : judge (record_of r) ≡ judged r

abbrev pub TypedIsJudged : Type 0
TypedIsJudged = (ws : List (List ℕ)) (r : Readings) → understand ws ≡ Ok r → Tied ws r
