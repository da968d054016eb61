-- The outcome of a conversion, by its checks: what the reader refuses, then 20, then whether there is room. Assumes nothing.
use Rattle.writer.proofs.Kit.{◌≡◌, ap₂, ◌∙◌, Bool, true, false, cond, List, [], ◌∷◌, ℕ, ◌≤◌, ◌<◌, arith, Float, length, sets, Outcome, accepted, refused, Row, ◌then◌, NoneHolds, then_append, then-none, then-accepted, read_rows, readings, read_record, fields_of, record_in, count_rows, converted, length_converted, written_in}
use Rattle.writer.proofs.Room.{no_room, room}

-- what rows refuse, they refuse whatever comes after them
rows_refuse : {A B : Type 0} (x : A) (rows : List Row) {n : ℕ} {vs : List Float} → (rows then accepted x) ≡ refused n vs → (o : Outcome B) → (rows then o) ≡ refused n vs
rows_refuse x [] e o = let z : ◌≡◌ {A = ℕ} 0 1 = cc in absurd (omega arith)
rows_refuse x (r ∷ rows) {n} {vs} e o = go r.holds e (λ f. rows_refuse x rows f o)
  where
    go : (b : Bool) → cond b (refused r.number r.values) (rows then accepted x) ≡ refused n vs → ((rows then accepted x) ≡ refused n vs → (rows then o) ≡ refused n vs)
        → cond b (refused r.number r.values) (rows then o) ≡ refused n vs
    go true e rest =
        let number : r.number ≡ n = cc in
        let values : r.values ≡ vs = cc in
        ap₂ (λ (k : ℕ) (ws : List Float). refused k ws) number values
    go false e rest = rest e

module _ (counts : Bool) (s : List ℕ) where
  abbrev checks : List Row
  checks = count_rows counts (fields_of s)

  -- the reader's refusal, or 20
  pub reader-refuses : {n : ℕ} {vs : List Float} → read_record false s ≡ refused n vs → converted counts s ≡ refused n vs
  unfolding converted
  reader-refuses e = then_append (read_rows false s) checks (accepted (record_in counts s)) ∙ rows_refuse (readings s) (read_rows false s) e (checks then accepted (record_in counts s))

  module _ (none : NoneHolds (read_rows false s)) where
    past_reader : converted counts s ≡ (checks then accepted (record_in counts s))
    unfolding converted
    past_reader = then_append (read_rows false s) checks (accepted (record_in counts s)) ∙ then-none (read_rows false s) none

    pub no_count : {n : ℕ} {vs : List Float} → (checks then accepted (length (record_in counts s))) ≡ refused n vs → converted counts s ≡ refused n vs
    no_count e = past_reader ∙ rows_refuse (length (record_in counts s)) checks e (accepted (record_in counts s))

    pub counted : {n : ℕ} → (checks then accepted (length (record_in counts s))) ≡ accepted n → (converted counts s ≡ accepted (record_in counts s)) × (n ≡ length (record_in counts s))
    counted {n} e =
        let ok = then-accepted checks e in
        let same = ok.1 in
        let long : n ≡ length (record_in counts s) = cc in
        (past_reader ∙ then-none checks ok.0, long)

  -- into a buffer
  module _ (buffer : List ℕ) where
    abbrev Answered : Outcome ℕ → List ℕ → Type 0
    Answered o after = (o ≡ length_converted counts s buffer) × (after ≡ written_in (converted counts s) buffer)

    pub refuses : {n : ℕ} {vs : List Float} → converted counts s ≡ refused n vs → Answered (refused n vs) buffer
    refuses e = (rw e, rw e)

    pub has-no_room : converted counts s ≡ accepted (record_in counts s) → length buffer < length (record_in counts s) → Answered (refused 18 []) buffer
    has-no_room e less = let short = no_room (record_in counts s) buffer less in (rw e short.0, rw e short.1)

    pub has_room : converted counts s ≡ accepted (record_in counts s) → length (record_in counts s) ≤ length buffer → Answered (accepted (length (record_in counts s))) (sets buffer 0 (record_in counts s))
    has_room e fits = let long = room (record_in counts s) buffer fits in (rw e long.0, rw e long.1)
