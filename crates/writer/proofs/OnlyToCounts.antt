-- Every count has a double: no field of a record has cause 20 on the way to doubles, and the reader has no such cause. Assumes nothing.
use Rattle.writer.proofs.Kit.{◌≡◌, refl, ap, ◌∙◌, Bool, true, false, cond, List, [], ◌∷◌, ◌++◌, ℕ, arith, ltb, Float, length, Outcome, accepted, refused, ◌⟫◌, Never, never_both, never-refused, Value, Double, Count, value_of, read_rows, length_written, turned, has_no_count, fields_of, record_in, count_rows, converted, length_converted}
use Rattle.record.proofs.Numbers.{fields-never}

-- ---- rows that never refuse by 20
has-double : (v : Value) → has_no_count (turned false v) ≡ false
has-double (Double x) = refl
has-double (Count word) = refl

counts-never : (fs : List (List ℕ)) → Never 20 (count_rows false fs)
counts-never [] = tt
counts-never (f ∷ fs) = ((λ e. has-double (value_of f)), counts-never fs)

converted-never : (s : List ℕ) {vs : List Float} → converted false s ≡ refused 20 vs → ⊥
unfolding converted
converted-never s e =
    never-refused 20 (record_in false s) (read_rows false s ++ count_rows false (fields_of s))
    (never_both 20 (read_rows false s) (count_rows false (fields_of s)) (fields-never 20 (omega arith) false s) (counts-never (fields_of s))) e

-- every count has a double: 20 is never answered to a conversion to doubles
pub only-to-counts : (s buffer : List ℕ) (values : List Float) → length_converted false s buffer ≡ refused 20 values → ⊥
only-to-counts s buffer vs e = go (converted false s) refl e
  where
    no_room : (t : List ℕ) (b : Bool) → cond b (refused 18 []) (accepted (length t)) ≡ refused 20 vs → ⊥
    no_room t true e = let number : ◌≡◌ {A = ℕ} 18 20 = cc in omega arith
    no_room t false e = let z : ◌≡◌ {A = ℕ} 0 1 = cc in omega arith

    go : (o : Outcome (List ℕ)) → converted false s ≡ o → (o ⟫ (λ t. length_written t buffer)) ≡ refused 20 vs → ⊥
    go (accepted t) is e = no_room t (ltb (length buffer) (length t)) e
    go (refused n ws) is e =
        let number : n ≡ 20 = cc in
        converted-never s {vs = ws} (is ∙ ap (λ (k : ℕ). refused k ws) number)
