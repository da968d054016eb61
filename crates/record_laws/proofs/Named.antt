-- The reading that a report names of refused readings is the one whose value the refusal hands out: the first row that holds is a row of that reading. Assumes
-- nothing.
use Rattle.std.specs.Prelude.{None, Option, Some}
use Rattle.record_laws.proofs.Kit.{◌≡◌, refl, sym, ap, subst, ◌∙◌, Bool, true, false, cond, ◌&&◌, ◌||◌, true≢false, List, [], ◌∷◌, ◌++◌, List-as-Memᴰ, ℕ, arith, Float, accepted, refused, Row, ◌then◌, none_before, none_after, Readings, entry_of, is_some, altitude, temperature, station_pressure, qnh, humidity, density_altitude, measured_pressure, figures_of, air_rows, way_rows, resolved, reading_rows, judged, neither}
use mathlib.Core.List.Memᴰ
use Rattle.arithmetic.specs.Places.{places}
use Rattle.refusal.specs.Causes.{NoneHolds}
use Rattle.density_altitude.specs.Inverse.{temperature_rows, station_rows}
use Rattle.report.specs.Fault.{not_finite, not_positive, first_not_finite, first_not_positive, reading_about}
use Rattle.mast.specs.Checks.{has, is_clash, finite_rows, pressure_rows, humidity_rows, present, value_rows}
use Rattle.station.specs.Resolved.{given_temperature}

module _ (r : Readings) where
  -- what a refusal hands out first is the value of the reading that is named
  abbrev Named : ℕ → List Float → Type 0
  Named n [] = Unit {0}
  Named n (v ∷ vs) = entry_of r (reading_about r n) ≡ Some v

  -- ---- rows of which each, where it is the first that holds, hands out the value of the reading that is named
  abbrev Sound : List Row → Type 0
  Sound [] = Unit {0}
  Sound (x ∷ rows) = (x.holds ≡ true → Named x.number x.values) × (x.holds ≡ false → Sound rows)

  sound-append : (xs ys : List Row) → Sound xs → (NoneHolds xs → Sound ys) → Sound (xs ++ ys)
  sound-append [] ys h k = k tt
  sound-append (x ∷ xs) ys h k = (h.0, λ f. sound-append xs ys (h.1 f) (λ none. k (f, none)))

  by_rows : {A : Type 0} (y : A) (rows : List Row) {n : ℕ} {vs : List Float} → Sound rows → (rows then accepted y) ≡ refused n vs → Named n vs
  by_rows y [] s e = let z : ◌≡◌ {A = ℕ} 0 1 = cc in absurd (omega arith)
  by_rows y (x ∷ rows) {n} {vs} s e = go x.holds s.0 e (λ f. by_rows y rows (s.1 f))
    where
      go : (b : Bool) → (b ≡ true → Named x.number x.values) → cond b (refused x.number x.values) (rows then accepted y) ≡ refused n vs
          → (b ≡ false → (rows then accepted y) ≡ refused n vs → Named n vs) → Named n vs
      go true here e rest = let same : x.number ≡ n = cc in let those : x.values ≡ vs = cc in rw (← same, ← those) (here refl)
      go false here e rest = rest refl e

  -- ---- the reading that 11 names, and the one that 12 names, by which of them are at fault
  abbrev first11 : Bool → Bool → Bool → Bool → ℕ
  first11 a s q u = cond a altitude (cond s station_pressure (cond q qnh (cond u humidity measured_pressure)))

  at_11 : {a s q u : Bool} {x : Float} → not_finite (entry_of r altitude) ≡ a → not_finite (entry_of r station_pressure) ≡ s → not_finite (entry_of r qnh) ≡ q → not_finite (entry_of r humidity) ≡ u
      → entry_of r (first11 a s q u) ≡ Some x → entry_of r (reading_about r 11) ≡ Some x
  unfolding reading_about first_not_finite
  at_11 {x = x} fa fs fq fu told = subst (λ (m : ℕ). entry_of r m ≡ Some x) (sym (λ i. first11 (fa i) (fs i) (fq i) (fu i))) told

  abbrev first12 : Bool → Bool → ℕ
  first12 s q = cond s station_pressure (cond q qnh measured_pressure)

  at_12 : {s q : Bool} {x : Float} → not_positive (entry_of r station_pressure) ≡ s → not_positive (entry_of r qnh) ≡ q → entry_of r (first12 s q) ≡ Some x → entry_of r (reading_about r 12) ≡ Some x
  unfolding reading_about first_not_positive
  at_12 {x = x} fs fq told = subst (λ (m : ℕ). entry_of r m ≡ Some x) (sym (λ i. first12 (fs i) (fq i))) told

  -- ---- the rows of each reading, where those before it hold nothing
  sound-altitude : (e : Option Float) → entry_of r altitude ≡ e → Sound (present finite_rows e)
  sound-altitude None told = tt
  sound-altitude (Some x) told = (λ h. at_11 (ap not_finite told ∙ h) refl refl refl told, λ _. tt)

  sound-temperature : (e : Option Float) → entry_of r temperature ≡ e → Sound (present temperature_rows e)
  unfolding reading_about
  sound-temperature None told = tt
  sound-temperature (Some t) told = (λ h. told, λ _. (λ h. told, λ _. tt))

  module _ (fa : not_finite (entry_of r altitude) ≡ false) where
    sound-station : (e : Option Float) → entry_of r station_pressure ≡ e → Sound (present pressure_rows e)
    sound-station None told = tt
    sound-station (Some p) told = (λ h. at_11 fa (ap not_finite told ∙ h) refl refl told, λ _. (λ h. at_12 (ap not_positive told ∙ h) refl told, λ _. tt))

    module _ (fs : not_finite (entry_of r station_pressure) ≡ false) where
      sound-qnh : (e : Option Float) → not_positive (entry_of r station_pressure) ≡ false → entry_of r qnh ≡ e → Sound (present pressure_rows e)
      sound-qnh None ps told = tt
      sound-qnh (Some p) ps told = (λ h. at_11 fa fs (ap not_finite told ∙ h) refl told, λ _. (λ h. at_12 ps (ap not_positive told ∙ h) told, λ _. tt))

      module _ (fq : not_finite (entry_of r qnh) ≡ false) where
        sound-humidity : (e : Option Float) → entry_of r humidity ≡ e → Sound (present humidity_rows e)
        unfolding reading_about
        sound-humidity None told = tt
        sound-humidity (Some u) told = (λ h. at_11 fa fs fq (ap not_finite told ∙ h) told, λ _. (λ h. told, λ _. tt))

        sound_measured : (e : Option Float) → not_finite (entry_of r humidity) ≡ false → not_positive (entry_of r station_pressure) ≡ false → not_positive (entry_of r qnh) ≡ false
            → entry_of r measured_pressure ≡ e → Sound (present pressure_rows e)
        sound_measured None fu ps pq told = tt
        sound_measured (Some p) fu ps pq told = (λ h. at_11 fa fs fq fu told, λ _. (λ h. at_12 ps pq told, λ _. tt))

-- ---- a reading whose rows hold nothing is not at fault, and neither is one that is absent
clear-finite : (e : Option Float) → NoneHolds (present finite_rows e) → not_finite e ≡ false
clear-finite None h = refl
clear-finite (Some x) h = h.0

clear-pressure : (e : Option Float) → NoneHolds (present pressure_rows e) → (not_finite e ≡ false) × (not_positive e ≡ false)
clear-pressure None h = (refl, refl)
clear-pressure (Some p) h = (h.0, h.1.0)

clear-humidity : (e : Option Float) → NoneHolds (present humidity_rows e) → not_finite e ≡ false
clear-humidity None h = refl
clear-humidity (Some u) h = h.0

clear-absent : (e : Option Float) → is_some e ≡ false → not_finite e ≡ false
clear-absent None h = refl
clear-absent (Some x) h = absurd (true≢false h)

-- ---- without 06
module _ (r : Readings) where
  abbrev to_02 : List Row
  to_02 = present finite_rows (entry_of r altitude) ++ present temperature_rows (entry_of r temperature)

  abbrev to_03 : List Row
  to_03 = to_02 ++ present pressure_rows (entry_of r station_pressure)

  abbrev to_04 : List Row
  to_04 = to_03 ++ present pressure_rows (entry_of r qnh)

  abbrev to_05 : List Row
  to_05 = to_04 ++ present humidity_rows (entry_of r humidity)

  clear_01 : NoneHolds to_02 → not_finite (entry_of r altitude) ≡ false
  clear_01 n = clear-finite (entry_of r altitude) (none_before (present finite_rows (entry_of r altitude)) (present temperature_rows (entry_of r temperature)) n)

  -- 03 and the ones before it, and so on
  clear_03 : NoneHolds to_03 → (not_finite (entry_of r altitude) ≡ false) × (not_finite (entry_of r station_pressure) ≡ false) × (not_positive (entry_of r station_pressure) ≡ false)
  clear_03 n =
      let s = present pressure_rows (entry_of r station_pressure) in
      let here = clear-pressure (entry_of r station_pressure) (none_after to_02 s n) in
      (clear_01 (none_before to_02 s n), here.0, here.1)

  clear_04 : NoneHolds to_04 → (NoneHolds to_03) × (not_finite (entry_of r qnh) ≡ false) × (not_positive (entry_of r qnh) ≡ false)
  clear_04 n =
      let q = present pressure_rows (entry_of r qnh) in
      let here = clear-pressure (entry_of r qnh) (none_after to_03 q n) in
      (none_before to_03 q n, here.0, here.1)

  sound-values : Sound r (value_rows r)
  sound-values =
      sound-append r to_05 (present pressure_rows (entry_of r measured_pressure)) (
      sound-append r to_04 (present humidity_rows (entry_of r humidity)) (
      sound-append r to_03 (present pressure_rows (entry_of r qnh)) (
      sound-append r to_02 (present pressure_rows (entry_of r station_pressure)) (
      sound-append r (present finite_rows (entry_of r altitude)) (present temperature_rows (entry_of r temperature)) (sound-altitude r (entry_of r altitude) refl)
      (λ _. sound-temperature r (entry_of r temperature) refl)
      )
      (λ n. sound-station r (clear_01 n) (entry_of r station_pressure) refl)
      )
      (λ n. let c = clear_03 n in sound-qnh r c.0 c.1 (entry_of r qnh) c.2 refl)
      )
      (λ n. let d = clear_04 n in let c = clear_03 d.0 in sound-humidity r c.0 c.1 d.1 (entry_of r humidity) refl)
      )
      (λ n.
      let u = present humidity_rows (entry_of r humidity) in
      let d = clear_04 (none_before to_04 u n) in
      let c = clear_03 d.0 in
      sound_measured r c.0 c.1 d.1 (entry_of r measured_pressure) (clear-humidity (entry_of r humidity) (none_after to_04 u n)) c.2 d.2 refl)

  -- ---- with 06, where altitude and pressures are absent
  module _ (apart : is_clash r ≡ false) (d : Float) (with06 : entry_of r density_altitude ≡ Some d) where
    others : (has r altitude || has r station_pressure || has r qnh || has r measured_pressure) ≡ false
    others =
        let pressures = (has r station_pressure && has r qnh) || (has r measured_pressure && (has r station_pressure || has r qnh)) in
        let excluded = has r altitude || has r station_pressure || has r qnh || has r measured_pressure in
        sym (ap (λ (e : Option Float). is_some e && excluded) with06) ∙ (neither pressures (has r density_altitude && excluded) apart).1

    sound-given : (e : Option Float) → entry_of r temperature ≡ e → Sound r (station_rows places d (given_temperature e))
    unfolding reading_about
    sound-given None told = (λ h. with06, λ _. (λ h. with06, λ _. tt))
    sound-given (Some t) told = (λ h. with06, λ _. (λ h. told, λ _. (λ h. told, λ _. (λ h. with06, λ _. tt))))

    sound-inverse : Sound r (way_rows r (Some d))
    sound-inverse =
        let three = (neither (has r altitude || has r station_pressure || has r qnh) (has r measured_pressure) others).0 in
        let two = neither (has r altitude || has r station_pressure) (has r qnh) three in
        let one = neither (has r altitude) (has r station_pressure) two.0 in
        sound-append r (station_rows places d (given_temperature (entry_of r temperature))) (present humidity_rows (entry_of r humidity)) (sound-given (entry_of r temperature) refl)
        (λ _. sound-humidity r (clear-absent (entry_of r altitude) one.0) (clear-absent (entry_of r station_pressure) one.1) (clear-absent (entry_of r qnh) two.1) (entry_of r humidity) refl)

  -- ---- all rows
  sound_way : is_clash r ≡ false → (e : Option Float) → entry_of r density_altitude ≡ e → Sound r (way_rows r e)
  sound_way apart None told = (λ _. tt, λ _. sound-values)
  sound_way apart (Some d) told = sound-inverse apart d told

  sound-readings : Sound r (reading_rows r)
  sound-readings =
      let way = entry_of r density_altitude in
      (λ _. tt, λ apart. sound-append r (way_rows r way) (air_rows (resolved r)) (sound_way apart way refl) (λ _. (λ _. tt, λ _. (λ _. tt, λ _. tt))))

pub named : (r : Readings) (n : ℕ) (v : Float) (vs : List Float) → judged r ≡ refused n (v ∷ vs) → entry_of r (reading_about r n) ≡ Some v
unfolding judged
named r n v vs e = by_rows r (figures_of (resolved r)) (reading_rows r) (sound-readings r) e

-- ---- which of them: 11 is about any reading but a temperature and a density altitude, and 12 about a pressure
pub named_11 : (r : Readings) → List-as-Memᴰ (reading_about r 11) (altitude ∷ station_pressure ∷ qnh ∷ humidity ∷ measured_pressure ∷ [])
unfolding reading_about first_not_finite
named_11 r = go (not_finite (entry_of r altitude)) (not_finite (entry_of r station_pressure)) (not_finite (entry_of r qnh)) (not_finite (entry_of r humidity))
  where
    go : (a s q u : Bool) → List-as-Memᴰ (first11 r a s q u) (altitude ∷ station_pressure ∷ qnh ∷ humidity ∷ measured_pressure ∷ [])
    go true s q u = Memᴰ.head refl
    go false true q u = Memᴰ.tail (Memᴰ.head refl)
    go false false true u = Memᴰ.tail (Memᴰ.tail (Memᴰ.head refl))
    go false false false true = Memᴰ.tail (Memᴰ.tail (Memᴰ.tail (Memᴰ.head refl)))
    go false false false false = Memᴰ.tail (Memᴰ.tail (Memᴰ.tail (Memᴰ.tail (Memᴰ.head refl))))

pub named_12 : (r : Readings) → List-as-Memᴰ (reading_about r 12) (station_pressure ∷ qnh ∷ measured_pressure ∷ [])
unfolding reading_about first_not_positive
named_12 r = go (not_positive (entry_of r station_pressure)) (not_positive (entry_of r qnh))
  where
    go : (s q : Bool) → List-as-Memᴰ (first12 r s q) (station_pressure ∷ qnh ∷ measured_pressure ∷ [])
    go true q = Memᴰ.head refl
    go false true = Memᴰ.tail (Memᴰ.head refl)
    go false false = Memᴰ.tail (Memᴰ.tail (Memᴰ.head refl))

pub named-alone : (r : Readings) → (reading_about r 1 ≡ density_altitude) × (reading_about r 2 ≡ temperature) × (reading_about r 3 ≡ temperature) × (reading_about r 4 ≡ density_altitude) × (reading_about r 13 ≡ humidity)
unfolding reading_about
named-alone r = (refl, refl, refl, refl, refl)
