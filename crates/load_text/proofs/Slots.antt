-- The readings of the load slot by slot: which counts they hold, each within its range and as the code holds it. Assumes nothing.
use Rattle.std.specs.Prelude.{None, Option, Some}
use Rattle.load_text.proofs.Kit.{◌≡◌, refl, sym, subst, Bool, true, false, cond, List, [], ◌∷◌, ◌⊎◌, inl, inr, ℕ, zero, suc, arith, ℤ, pos, get_or, twos_complement, LoadCounts, CountBetween, Count, Readings, readings_of_counts, CountIn, IsOfTheLoad, InRange}
use Rattle.thousandths.proofs.Words.{twos_complement_lem}
use Rattle.load_text.proofs.Stated.{InRanges}
use Rattle.fields.specs.declared.fields.Value.{Value}
use Rattle.writer.specs.Laws.{IsHeld, AreHeld}
use Rattle.load_text.proofs.Order.{in_range_lem}

abbrev stored : ℤ → (Option Value)
stored z = Some (Count (twos_complement z))

-- a slot for each meaning, 01 to 07
abbrev pub in_slots : Bool → LoadCounts → Readings
in_slots humid c =
    record {
      slots =
          stored c.altitude ∷ stored c.temperature ∷ None ∷ None ∷ cond humid (stored c.humidity) None ∷ None ∷
          stored c.pressure ∷ [];
    }

pub by_slots : (c : LoadCounts) → readings_of_counts c ≡ in_slots c.humid c
unfolding readings_of_counts
by_slots c = go c.humid
  where
    go : (b : Bool) → cond b (in_slots true c) (in_slots false c) ≡ in_slots b c
    go true = refl
    go false = refl

-- ---- within the ranges
module _ (c : LoadCounts) (ranges : InRanges c) where
  of-the_load : (humid : Bool) → IsOfTheLoad (in_slots humid c)
  of-the_load humid = record {
    altitude = record { count = c.altitude; stored = refl; between = ranges.altitude };
    temperature = record { count = c.temperature; stored = refl; between = ranges.temperature };
    pressure = record { count = c.pressure; stored = refl; between = ranges.pressure };
    humidity = go humid;
    no_station_pressure = refl;
    no_qnh = refl;
    no_density_altitude = refl;
  }
    where
      go : (b : Bool) → (cond b (stored c.humidity) None ≡ None) ⊎ CountIn (pos 0) (pos 100_000) (cond b (stored c.humidity) None)
      go true = inr (record { count = c.humidity; stored = refl; between = ranges.humidity })
      go false = inl refl

-- ---- as the code holds them
abbrev Held : (Option Value) → Type 0
Held None = Unit {0}
Held (Some v) = IsHeld v

abbrev AllHeld : List (Option Value) → Type 0
AllHeld [] = Unit {0}
AllHeld (s ∷ slots) = Held s × AllHeld slots

one_of_all : (slots : List (Option Value)) → AllHeld slots → (m : ℕ) (v : Value) → get_or slots m None ≡ Some v → IsHeld v
one_of_all [] h m v e = let z : ◌≡◌ {A = ℕ} 0 1 = cc in absurd (omega arith)
one_of_all (s ∷ slots) h zero v e = subst Held e h.0
one_of_all (s ∷ slots) h (suc m) v e = one_of_all slots h.1 m v e

module _ (c : LoadCounts) (ranges : InRanges c) where
  word_held : (low high z : ℤ) → InRange low → InRange high → CountBetween low high z → IsHeld (Count (twos_complement z))
  word_held low high z l h between = twos_complement_lem.word_in_range z (in_range_lem low high z l h between)

  are_held : (humid : Bool) → AreHeld (in_slots humid c)
  are_held humid = record { all = refl; values = λ m v e. one_of_all (in_slots humid c).slots all_held m v e }
    where
      humidity-held : (b : Bool) → Held (cond b (stored c.humidity) None)
      humidity-held true = word_held _ _ c.humidity tt tt ranges.humidity
      humidity-held false = tt

      all_held : AllHeld (in_slots humid c).slots
      all_held = (
        word_held _ _ c.altitude tt tt ranges.altitude,
        (
          word_held _ _ c.temperature tt tt ranges.temperature,
          (tt, (tt, (humidity-held humid, (tt, (word_held _ _ c.pressure tt tt ranges.pressure, tt))))),
        ),
      )

-- ---- of the readings that the counts give
pub readings_of-the_load : (c : LoadCounts) → InRanges c → IsOfTheLoad (readings_of_counts c)
readings_of-the_load c ranges = subst IsOfTheLoad (sym (by_slots c)) (of-the_load c ranges c.humid)

pub readings-held : (c : LoadCounts) → InRanges c → AreHeld (readings_of_counts c)
readings-held c ranges = subst AreHeld (sym (by_slots c)) (are_held c ranges c.humid)
