-- What the page of promises spells out, in the words of the proofs: statements, and what only these cite. Definitions only.
use Rattle.load_text.proofs.Kit.{◌≡◌, ℕ, pos, neg_ℤ, ℤ, List, [], ◌++◌, cond, Bool, output, load_counts, LoadCounts, CountBetween, twos_complement, Count, field_with, accepted, air_outcome, judge_by, load_readings, load_record, IsOfTheLoad}
use Rattle.record.specs.Readings.{read_record}
use Rattle.station.specs.Resolved.{ordinary}

-- ---- as published for the seed 0
pub record PublishedOutputs : Type 0 where
  pub first : output 0 ≡ 0xE220A8397B1DCDAF
  pub second : output 1 ≡ 0x6E789E6AA1B965F4
  pub third : output 2 ≡ 0x06C45D188009454F

pub record InRanges (c : LoadCounts) : Type 0 where
  pub altitude : CountBetween (neg_ℤ (pos 500_000)) (pos 3_000_000) c.altitude
  pub temperature : CountBetween (neg_ℤ (pos 40_000)) (pos 50_000) c.temperature
  pub pressure : CountBetween (pos 600_000) (pos 1_100_000) c.pressure
  pub humidity : CountBetween (pos 0) (pos 100_000) c.humidity

-- ---- the bytes: counts in the fields 11, 12, 15, unless it is left out, and 17 (hex)
abbrev pub count_field : ℕ → ℤ → List ℕ
count_field tag count = field_with tag (Count (twos_complement count))

abbrev pub load_fields : LoadCounts → List ℕ
load_fields c =
    count_field 0x11 c.altitude ++ count_field 0x12 c.temperature ++ cond c.humid (count_field 0x15 c.humidity) [] ++ count_field 0x17 c.pressure

-- ---- of record n, by the first reader and by the strict one: it reads back as its readings, none of 5 to 8 and 19, and what is judged is their air, none of
-- 1 to 4 and 9 to 13
pub record LoadRecord (n : ℕ) : Type 0 where
  pub fields : load_record n ≡ load_fields (load_counts n)
  pub counts : IsOfTheLoad (load_readings n)
  pub read_back : (strict : Bool) → read_record strict (load_record n) ≡ accepted (load_readings n)
  pub judged_as_air : (strict : Bool) → judge_by strict (load_record n) ≡ air_outcome (ordinary (load_readings n))
