-- What may be relied on of every record of the load. Assumes nothing.
use Rattle.load_text.proofs.Kit.{◌≡◌, sym, ap, ◌∙◌, Bool, true, false, ℕ, ◌≤◌, length, Outcome, accepted, ◌⟫◌, Readings, judged, load_counts, load_readings, load_record, IsOfTheLoad}
use Rattle.record.specs.Readings.{read_record}
use Rattle.record.proofs.Strict.{same_where_rising, accepted-rising}
use Rattle.writer.proofs.ReadBack.{read_back}
use Rattle.load_text.proofs.Ranges.{in_ranges}
use Rattle.load_text.proofs.Slots.{readings_of-the_load, readings-held}
use Rattle.load_text.proofs.Bytes.{bytes_of, at_most_28}
use Rattle.load_text.proofs.Passes.{only-air}
use Rattle.load_text.proofs.Stated.{LoadRecord}

module _ (n : ℕ) where
  strictly : read_record true (load_record n) ≡ accepted (load_readings n)
  unfolding load_record load_readings
  strictly = read_back (load_readings n) (readings-held (load_counts n) (in_ranges n))

  read : (strict : Bool) → read_record strict (load_record n) ≡ accepted (load_readings n)
  read true = strictly
  read false = sym (same_where_rising (load_record n) (accepted-rising (load_record n) strictly)) ∙ strictly

  of-the_load : IsOfTheLoad (load_readings n)
  unfolding load_readings
  of-the_load = readings_of-the_load (load_counts n) (in_ranges n)

  -- no record has more than 28 bytes
  pub short : length (load_record n) ≤ 28
  unfolding load_record load_readings
  short = rw (bytes_of (load_counts n)) (at_most_28 (load_counts n))

pub every_record : (n : ℕ) → LoadRecord n
unfolding load_record load_readings
every_record n = record {
  fields = bytes_of (load_counts n);
  counts = of-the_load n;
  read_back = read n;
  judged_as_air = λ strict. ap (λ (o : Outcome Readings). o ⟫ judged) (read n strict) ∙ only-air (load_readings n) (of-the_load n);
}
