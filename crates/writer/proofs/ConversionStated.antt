-- What is proved of a conversion, as types; the page of promises says it in full. Assumes nothing.
use Rattle.writer.proofs.Kit.{ℕ, ◌≡◌, Bool, true, false, not, List, [], ◌∷◌, ◌++◌, flat_map, length, accepted, Row, numbers, ExactlyCaused, Readings, read_record, read_rows, entry_of, AreBytes, room_rows, AllIn, fields_of, converted, length_converted, count_rows, record_in}
use Rattle.fields.specs.Tags.{tags}

-- a record that has no field in the form and converts to it comes back with the same bytes
abbrev pub ComesBack : Bool → Type 0
ComesBack counts = (s t : List ℕ) → AreBytes s → AllIn (not counts) (fields_of s) → converted counts s ≡ accepted t → converted (not counts) t ≡ accepted s

pub record ComeBack : Type 0 where
  pub wholly_in_doubles : ComesBack true
  pub wholly_in_counts : ComesBack false

-- ---- to the first reader a record and what it converts to are the same: it accepts both, with the same entries
pub record ReadAlike (s t : List ℕ) : Type 0 where
  pub before : Readings
  pub after : Readings
  pub reads_before : read_record false s ≡ accepted before
  pub reads-after : read_record false t ≡ accepted after
  pub same : (m : ℕ) → entry_of before m ≡ entry_of after m

abbrev pub SameEntries : Type 0
SameEntries = (counts : Bool) (s t : List ℕ) → AreBytes s → converted counts s ≡ accepted t → ReadAlike s t

-- ---- each number has exactly its cause: 5 to 8 by the first reader, then 20, then 18
abbrev pub conversion_rows : Bool → List ℕ → List ℕ → List Row
conversion_rows counts s buffer = (read_rows false s ++ count_rows counts (fields_of s)) ++ room_rows (record_in counts s) buffer

abbrev pub Caused : Bool → List ℕ → List ℕ → Type 0
Caused counts s buffer = ExactlyCaused (conversion_rows counts s buffer) (length (record_in counts s)) (length_converted counts s buffer)

-- in this order: those of each field, then 20 of each field, then 18
abbrev pub OrderOfChecks : Bool → List ℕ → List ℕ → Type 0
OrderOfChecks counts s buffer =
    numbers (conversion_rows counts s buffer) ≡ (flat_map (λ _. 5 ∷ 6 ∷ 7 ∷ 5 ∷ 8 ∷ 19 ∷ []) (tags s) ++ flat_map (λ _. 20 ∷ []) (fields_of s)) ++ 18 ∷ []
