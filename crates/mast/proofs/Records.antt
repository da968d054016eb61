-- What the judge's answer depends on, by the laws of the record: its first 256 bytes, nothing past a refusal 6 to 8, and no order of its fields. Assumes nothing.
use Rattle.mast.proofs.Kit.{◌≡◌, refl, sym, ap, subst, ◌∙◌, false, List, [], ◌∷◌, ◌++◌, ℕ, ◌≤◌, arith, Float, places, Outcome, accepted, refused, ◌⟫◌, Row, exactly, temperature_rows, station_rows, Option, None, Some, Readings, altitude, temperature, station_pressure, qnh, humidity, density_altitude, measured_pressure, read_record, entry_of, finite_rows, pressure_rows, humidity_rows, present, given_temperature, figures_of, air_rows, way_rows, resolved, reading_rows, judged, judge, take}
use Rattle.record.proofs.FirstBytes.{first-bytes}
use Rattle.record.proofs.Following.{nothing-after}
use Rattle.record.proofs.Exchange.{exchange}
use Rattle.mast.proofs.Stated.{AnyOrder}

-- it is judged by its first 256 bytes
pub first-bytes-judged : (s : List ℕ) → judge (take 256 s) ≡ judge s
unfolding judge
first-bytes-judged s = ap (λ (o : Outcome Readings). o ⟫ judged) (first-bytes false s)

pub any_order : AnyOrder
unfolding judge
any_order s f g t r q before one one' e = ap (λ (o : Outcome Readings). o ⟫ judged) (exchange f g t one one' s before e ∙ sym e)

-- ---- a refusal of readings is none of 6 to 8
abbrev Outside : ℕ → Type 0
Outside k = 6 ≤ k → k ≤ 8 → ⊥

abbrev AllOutside : List Row → Type 0
AllOutside [] = Unit {0}
AllOutside (r ∷ rows) = Outside r.number × AllOutside rows

both : (xs ys : List Row) → AllOutside xs → AllOutside ys → AllOutside (xs ++ ys)
both [] ys h k = k
both (r ∷ xs) ys h k = (h.0, both xs ys h.1 k)

here-outside : (xs : List Row) (r : Row) (ys : List Row) → AllOutside (xs ++ r ∷ ys) → Outside r.number
here-outside [] r ys h = h.0
here-outside (x ∷ xs) r ys h = here-outside xs r ys h.1

where_present : (rows : Float → List Row) → ((x : Float) → AllOutside (rows x)) → (e : Option Float) → AllOutside (present rows e)
where_present rows h None = tt
where_present rows h (Some x) = h x

way_outside : (r : Readings) (e : Option Float) → AllOutside (way_rows r e)
way_outside r (Some d) =
    both (station_rows places d (given_temperature (entry_of r temperature))) (present humidity_rows (entry_of r humidity)) (go (entry_of r temperature)) (where_present humidity_rows (λ x. omega arith) (entry_of r humidity))
  where
    go : (t : Option Float) → AllOutside (station_rows places d (given_temperature t))
    go None = omega arith
    go (Some t) = omega arith
way_outside r None =
    let a = present finite_rows (entry_of r altitude) in
    let t = present temperature_rows (entry_of r temperature) in
    let p = present pressure_rows (entry_of r station_pressure) in
    let q = present pressure_rows (entry_of r qnh) in
    let h = present humidity_rows (entry_of r humidity) in
    let to_02 = both a t (where_present finite_rows (λ x. omega arith) (entry_of r altitude)) (where_present temperature_rows (λ x. omega arith) (entry_of r temperature)) in
    let to_03 = both (a ++ t) p to_02 (where_present pressure_rows (λ x. omega arith) (entry_of r station_pressure)) in
    let to_04 = both (a ++ t ++ p) q to_03 (where_present pressure_rows (λ x. omega arith) (entry_of r qnh)) in
    let to_05 = both (a ++ t ++ p ++ q) h to_04 (where_present humidity_rows (λ x. omega arith) (entry_of r humidity)) in
    (omega arith, both (a ++ t ++ p ++ q ++ h) (present pressure_rows (entry_of r measured_pressure)) to_05 (where_present pressure_rows (λ x. omega arith) (entry_of r measured_pressure)))

of-readings : (r : Readings) (k : ℕ) (vs : List Float) → judged r ≡ refused k vs → Outside k
unfolding judged
of-readings r k vs e =
    let d = entry_of r density_altitude in
    let f = (exactly (figures_of (resolved r)) (reading_rows r)).refused_because e in
    let all : AllOutside (reading_rows r) = (omega arith, both (way_rows r d) (air_rows (resolved r)) (way_outside r d) (omega arith)) in
    subst Outside f.numbered (here-outside f.earlier f.here f.later (subst AllOutside f.all all))

-- a refusal 6, 7 or 8 stays whatever follows the record
pub nothing-after-judged : (number : ℕ) (values : List Float) → 6 ≤ number → number ≤ 8 → (s t : List ℕ) → judge s ≡ refused number values
    → judge (s ++ t) ≡ refused number values
unfolding judge
nothing-after-judged k vs low high s t e = go (read_record false s) refl e
  where
    go : (o : Outcome Readings) → read_record false s ≡ o → (o ⟫ judged) ≡ refused k vs → (read_record false (s ++ t) ⟫ judged) ≡ refused k vs
    go (accepted r) h e = absurd (of-readings r k vs e low high)
    go (refused n ws) h e = let same : n ≡ k = cc in ap (λ (o : Outcome Readings). o ⟫ judged) (nothing-after false s t h (λ five. omega arith)) ∙ e
