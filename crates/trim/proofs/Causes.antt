-- Each number of the answer has exactly its cause, and the class is a count of six limits. Assumes nothing.
use Rattle.trim.proofs.Kit.{◌≡◌, refl, sym, ap, ap₂, ◌∙◌, false, not, ◌||◌, List, [], ◌∷◌, ℕ, arith, Outcome, accepted, ◌⟫◌, row, ◌then◌, Option, None, Some, Readings, entry_of, is_some, value_or_zero, temperature, measured_pressure, read_rows, readings, Figures, resolved, reading_rows, record_rows, judged, judge, class_densities, count_at_or_below, trim_class, class_of, changes, first_of, Next, next_from, start_of, next_with, next_of, next_trim_class, next_for, Float, ◌+◌, cond, le}
use Rattle.refusal.proofs.Rows.{then_append, then_next, none_both, exactly-by}
use Rattle.station.specs.Figures.{figures_of}
use Rattle.mast.proofs.Causes as mast
use Rattle.trim.proofs.Stated.{trim_rows, Caused}
use Rattle.arithmetic.specs.Decimals.{decimal}

-- 22 by the two readings
by-readings : (r : Readings) (c : ℕ) (t p : (Option Float))
    → (start_of r c t p ⟫ next_from)
    ≡ (row (not (is_some t) || not (is_some p)) 22 [] ∷ []
    then accepted (record { class = c; turn = first_of (record { readings = r; temperature_c = value_or_zero t; pressure_hpa = value_or_zero p; class = c }) changes }))
unfolding next_from
by-readings r c (Some t) (Some p) = refl
by-readings r c (Some t) None = refl
by-readings r c None p = refl

pub caused : (bytes : List ℕ) → Caused bytes
unfolding next_trim_class next_of next_with class_of judged
caused bytes =
    let r = readings bytes in
    let f = figures_of (resolved r) in
    let c = trim_class f.density_kg_m3 in
    let n = next_for bytes in
    let own = reading_rows r in
    let last = row (not (is_some (entry_of r temperature)) || not (is_some (entry_of r measured_pressure))) 22 [] ∷ [] in
    let next-is : next_of r ≡ (own then last then accepted n) =
    ap (λ (o : Outcome ℕ). o ⟫ next_with r) (then_next own (accepted f) (λ g. accepted (trim_class g.density_kg_m3))) ∙ then_next own (accepted c) (next_with r)
    ∙ ap (λ (o : Outcome Next). own then o) (by-readings r c (entry_of r temperature) (entry_of r measured_pressure)) in
    exactly-by n (trim_rows bytes)
    (then_next (read_rows false bytes) (accepted r) next_of ∙ ap (λ (o : Outcome Next). read_rows false bytes then o) next-is
    ∙ sym (then_append (read_rows false bytes) own (last then accepted n)) ∙ sym (then_append (record_rows false bytes) last (accepted n)))

-- a record that is accepted and has both readings is answered, never refused
pub never-refused : (bytes : List ℕ) (f : Figures) (t p : Float) → judge bytes ≡ accepted f → entry_of (readings bytes) temperature ≡ Some t
    → entry_of (readings bytes) measured_pressure ≡ Some p → (n : Next) × (next_trim_class bytes ≡ accepted n)
unfolding judge
never-refused bytes f t p e temperature-there pressure-there =
    let both : (not (is_some (entry_of (readings bytes) temperature)) || not (is_some (entry_of (readings bytes) measured_pressure))) ≡ false =
    ap₂ (λ (x y : (Option Float)). not (is_some x) || not (is_some y)) temperature-there pressure-there in
    (next_for bytes, (caused bytes).accepted_where (none_both (record_rows false bytes) (row (not (is_some (entry_of (readings bytes) temperature)) || not (is_some (entry_of (readings bytes) measured_pressure))) 22 [] ∷ []) ((mast.caused false bytes).accepted_because e).0 (both, tt)))

pub class-counts : (r : Readings) (f : Figures) → judged r ≡ accepted f
    → let d = f.density_kg_m3 in class_of r ≡ accepted (cond (le (decimal "1.00") d) 1 0 + cond (le (decimal "1.05") d) 1 0 + cond (le (decimal "1.10") d) 1 0 + cond (le (decimal "1.15") d) 1 0 + cond (le (decimal "1.20") d) 1 0 + cond (le (decimal "1.25") d) 1 0)
unfolding class_of trim_class class_densities count_at_or_below
class-counts r f e = ap (λ (o : Outcome Figures). o ⟫ (λ g. accepted (trim_class g.density_kg_m3))) e ∙ ap accepted (omega arith)
