-- The bytes of the load's readings, field by field, and that there are 28 of them at most. Assumes nothing.
use Rattle.load_text.proofs.Kit.{◌≡◌, ap, ◌∙◌, Bool, true, false, cond, List, [], ◌++◌, append-nil, append_assoc, ℕ, ◌+◌, ◌≤◌, arith, ℤ, length, length-append, twos_complement, LoadCounts, Count, fields_from, record_of, readings_of_counts}
use Rattle.fields.specs.Fields.{data_size}
use Rattle.writer.proofs.Fields.{length-field}
use Rattle.load_text.proofs.Stated.{count_field, load_fields}
use Rattle.load_text.proofs.Slots.{in_slots, by_slots}

module _ (c : LoadCounts) where
  abbrev four : Bool → List ℕ
  four humid = count_field 0x11 c.altitude ++ count_field 0x12 c.temperature ++ cond humid (count_field 0x15 c.humidity) [] ++ count_field 0x17 c.pressure

  by-fields : (humid : Bool) → record_of (in_slots humid c) ≡ four humid
  unfolding fields_from
  by-fields true = simp (append_assoc, append-nil)
  by-fields false = simp (append_assoc, append-nil)

  pub bytes_of : record_of (readings_of_counts c) ≡ load_fields c
  bytes_of = ap record_of (by_slots c) ∙ by-fields c.humid

  seven : (tag : ℕ) (count : ℤ) → length (count_field tag count) ≡ 3 + data_size tag
  seven tag count = length-field tag (Count (twos_complement count))

  pub at_most_28 : length (load_fields c) ≤ 28
  at_most_28 = go c.humid
    where
      go : (humid : Bool) → length (four humid) ≤ 28
      go true = simp length-append (omega (arith, seven 0x11 c.altitude, seven 0x12 c.temperature, seven 0x15 c.humidity, seven 0x17 c.pressure))
      go false = simp length-append (omega (arith, seven 0x11 c.altitude, seven 0x12 c.temperature, seven 0x17 c.pressure))
