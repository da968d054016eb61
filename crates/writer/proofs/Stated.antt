-- What is proved of a record that is written and read, as types; the page of promises says it in full. Assumes nothing.
use Rattle.writer.proofs.Kit.{ℕ, ◌≡◌, true, false, List, is_nan, length, accepted, ExactlyCaused, Value, Double, Count, Some, Readings, read_record, stored_of, record_of, room_rows, length_written, AreBytes}

abbrev pub NotNan : Value → Type 0
NotNan (Double x) = is_nan x ≡ false
NotNan (Count word) = Unit {0}

abbrev pub NoNan : Readings → Type 0
NoNan r = (m : ℕ) (v : Value) → stored_of r m ≡ Some v → NotNan v

-- every record that the strict reader takes is byte for byte what is written of its readings, where none of them is NaN, which has other patterns too
abbrev pub WrittenAgain : Type 0
WrittenAgain = (s : List ℕ) (r : Readings) → AreBytes s → NoNan r → read_record true s ≡ accepted r → s ≡ record_of r

-- ---- each number has exactly its cause: 18
abbrev pub Caused : List ℕ → List ℕ → Type 0
Caused s buffer = ExactlyCaused (room_rows s buffer) (length s) (length_written s buffer)
