-- The answer to a record: the smallest change that gives another class, and the refusals. Assumes nothing.
use Rattle.std.specs.Prelude.{None, Some}
use Rattle.trim.proofs.Kit.{◌≡◌, refl, sym, ap, subst, ◌∙◌, false, List, [], ◌⊎◌, ⊎_elim, ℕ, arith, Float, Outcome, accepted, refused, ◌⟫◌, Option, None, Some, Readings, temperature, measured_pressure, read_record, entry_of, Figures, judged, judge, Turn, Start, trim_class, class_of, changes, first_of, Next, next_from, start_of, next_with, next_of, next_trim_class, OneOfThe800, FirstToGive, Asks}
use Rattle.trim.proofs.Stated.{ClassAnswered, Refusals, Searched}
use Rattle.trim.proofs.Found.{FromCount, gives-from, gives_not_from, from-count}

-- ---- the smallest change
answer : (bytes : List ℕ) (s : Start) → Asks bytes s → next_trim_class bytes ≡ accepted (record { class = s.class; turn = first_of s changes })
unfolding next_trim_class next_of next_with next_from
answer bytes s a =
    ap (λ (o : Outcome Readings). o ⟫ next_of) a.read ∙ ap (λ (o : Outcome ℕ). o ⟫ next_with s.readings) a.class
    ∙ ap (λ (t : (Option Float)). start_of s.readings s.class t (entry_of s.readings measured_pressure) ⟫ next_from) a.temperature_there
    ∙ ap (λ (p : (Option Float)). start_of s.readings s.class (Some s.temperature_c) p ⟫ next_from) a.pressure_there

same_next : {n m : Next} → accepted n ≡ accepted m → n ≡ m
same_next e = cc

same_turn : {t u : Turn} → Some t ≡ Some u → t ≡ u
same_turn e = cc

apart : {t : Turn} → Some t ≡ None → ⊥
apart e = let z : ◌≡◌ {A = ℕ} 0 1 = cc in omega arith

module _ (bytes : List ℕ) (s : Start) (a : Asks bytes s) where
  found-is : {f : (Option Turn)} → next_trim_class bytes ≡ accepted (record { class = s.class; turn = f }) → first_of s changes ≡ f
  found-is e = ap (λ (n : Next). n.turn) (same_next (sym (answer bytes s a) ∙ e))

  searched : FromCount s 200 1 → Searched bytes s
  unfolding changes
  searched (gives-from x m low high g before e) =
      let one : OneOfThe800 x = record { at_least = low; at_most = omega arith } in
      let first : FirstToGive s x m = record { one_of = one; gives = g; none_before = λ y j one' earlier. before y one'.at_least earlier j } in
      record {
        turns = λ t h. subst (λ (t : Turn). FirstToGive s t.change t.class) (same_turn (sym e ∙ found-is h)) first;
        none-because = λ h. absurd (apart (sym e ∙ found-is h));
        none_where = λ none. absurd (none x m one g);
      }
  searched (gives_not_from none e) =
      record {
        turns = λ t h. absurd (apart (sym (found-is h) ∙ e));
        none-because = λ h y j one. none y one.at_least (omega (arith, one.at_most)) j;
        none_where = λ none. answer bytes s a ∙ ap (λ (f : (Option Turn)). accepted (record { class = s.class; turn = f })) e;
      }

pub smallest-change : (bytes : List ℕ) (s : Start) → Asks bytes s → Searched bytes s
smallest-change bytes s a = searched bytes s a (from-count s 200 1)

-- ---- the refusals
refused_or : {A : Type 0} {number : ℕ} {values : List Float} {x : A} → refused number values ≡ accepted x → ⊥
refused_or e = let z : ◌≡◌ {A = ℕ} 0 1 = cc in omega arith

own-refusal : (bytes : List ℕ) (number : ℕ) (values : List Float) → judge bytes ≡ refused number values → next_trim_class bytes ≡ refused number values
unfolding judge next_trim_class next_of class_of
own-refusal bytes number values e = go (read_record false bytes) e
  where
    by : (r : Readings) (o : Outcome Figures) → o ≡ refused number values
        → ((o ⟫ (λ f. accepted (trim_class f.density_kg_m3))) ⟫ next_with r) ≡ refused number values
    by r (accepted f) e = absurd (refused_or (sym e))
    by r (refused n vs) e = cc

    go : (o : Outcome Readings) → (o ⟫ judged) ≡ refused number values → (o ⟫ next_of) ≡ refused number values
    go (accepted r) e = by r (judged r) e
    go (refused n vs) e = cc

no_reading : (r : Readings) (n : ℕ) (t p : (Option Float)) → (t ≡ None) ⊎ (p ≡ None) → (start_of r n t p ⟫ next_from) ≡ refused 22 []
no_reading r n None p h = refl
no_reading r n (Some t) None h = refl
no_reading r n (Some t) (Some p) h = absurd (⊎_elim (λ e. there e) (λ e. there e) h)
  where
    there : {x : Float} → Some x ≡ None → ⊥
    there e = let z : ◌≡◌ {A = ℕ} 0 1 = cc in omega arith

no_reading-refused : (bytes : List ℕ) (r : Readings) (f : Figures) → read_record false bytes ≡ accepted r → judged r ≡ accepted f
    → (entry_of r temperature ≡ None) ⊎ (entry_of r measured_pressure ≡ None) → next_trim_class bytes ≡ refused 22 []
unfolding next_trim_class next_of next_with class_of
no_reading-refused bytes r f e j h =
    ap (λ (o : Outcome Readings). o ⟫ next_of) e
    ∙ ap (λ (o : Outcome Figures). (o ⟫ (λ f. accepted (trim_class f.density_kg_m3))) ⟫ next_with r) j
    ∙ no_reading r (trim_class f.density_kg_m3) (entry_of r temperature) (entry_of r measured_pressure) h

answered : (bytes : List ℕ) (n : Next) → next_trim_class bytes ≡ accepted n → ClassAnswered bytes n
unfolding next_trim_class next_of next_with next_from
answered bytes n e = go (read_record false bytes) refl e
  where
    by_entries : (r : Readings) (m : ℕ) (t p : (Option Float)) → read_record false bytes ≡ accepted r → class_of r ≡ accepted m
        → entry_of r temperature ≡ t → entry_of r measured_pressure ≡ p → (start_of r m t p ⟫ next_from) ≡ accepted n → ClassAnswered bytes n
    by_entries r m (Some t) (Some p) read class there there' e =
        record {
          start = record { readings = r; temperature_c = t; pressure_hpa = p; class = m };
          asks = record { read = read; class = class; temperature_there = there; pressure_there = there' };
          class = ap (λ (n : Next). n.class) (same_next (sym e));
        }
    by_entries r m (Some t) None read class there there' e = absurd (refused_or e)
    by_entries r m None p read class there there' e = absurd (refused_or e)

    by-class : (r : Readings) (o : Outcome ℕ) → read_record false bytes ≡ accepted r → class_of r ≡ o → (o ⟫ next_with r) ≡ accepted n → ClassAnswered bytes n
    by-class r (accepted m) read class e = by_entries r m (entry_of r temperature) (entry_of r measured_pressure) read class refl refl e
    by-class r (refused k vs) read class e = absurd (refused_or e)

    go : (o : Outcome Readings) → read_record false bytes ≡ o → (o ⟫ next_of) ≡ accepted n → ClassAnswered bytes n
    go (accepted r) read e = by-class r (class_of r) read refl e
    go (refused k vs) read e = absurd (refused_or e)

pub refusals-first : (bytes : List ℕ) → Refusals bytes
refusals-first bytes = record { own = own-refusal bytes; no_reading = no_reading-refused bytes; else_answered = answered bytes }
