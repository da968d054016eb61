-- Each number of a vote has exactly its cause, and a mast is named exactly if it is the first that is refused. Assumes nothing.
use Rattle.vote.proofs.Kit.{◌≡◌, refl, sym, ap, ◌∙◌, Bool, true, false, not, ◌&&◌, ◌||◌, cond, false≢true, ◌⊎◌, inl, inr, List, [], ◌∷◌, ◌++◌, ℕ, zero, suc, ◌+◌, ◌≤◌, ◌<◌, eq-or-lt_of_le, le_of_suc-le-suc, arith, Float, Outcome, accepted, refused, ◌⟫◌, Row, ◌then◌, Readings, entry_of, is_some, meanings, read_rows, readings, Figures, resolved, reading_rows, record_rows, judged, judge, one_if, is_not_in_all, not_in_all_of, any_not_in_all, shared_rows, voted, VoteOutcome, by_mast, by_no_mast, accepted_readings, after_mast, voted_outcome, vote, Accepts}
use mathlib.Core.Bool.{or-true}
use Rattle.refusal.proofs.Rows.{then_append, then_next, then-rows, then-none, exactly-by, never-refused}
use Rattle.station.specs.Figures.{figures_of}
use Rattle.mast.proofs.Causes as mast
use Rattle.mast.proofs.Numbers.{readings-never, record_never}
use Rattle.vote.proofs.Stated.{voted_readings, vote_rows, Caused, InOneOrTwo, FieldMissing, NamedBecause}
use Rattle.vote.proofs.Laws.{masts_in_order}

-- ---- the outcome is one list of rows
accepted-by_rows : (s : List ℕ) → accepted_readings s ≡ (record_rows false s then accepted (readings s))
unfolding accepted_readings judged
accepted-by_rows s =
    let r = readings s in
    let f = figures_of (resolved r) in
    then-rows (read_rows false s) (reading_rows r) r r (λ q. judged q ⟫ (λ _. accepted q)) (then_next (reading_rows r) (accepted f) (λ _. accepted r))

-- what comes after the n-th mast
after-rows : {A : Type 0} (n : ℕ) (rows : List Row) (x : A) (next : A → VoteOutcome) → (after_mast n (rows then accepted x) next).outcome ≡ (rows then (next x).outcome)
after-rows n [] x next = refl
after-rows {A} n (r ∷ rows) x next = go r.holds (after-rows n rows x next)
  where
    go : (b : Bool) → (after_mast n (rows then accepted x) next).outcome ≡ (rows then (next x).outcome)
        → (after_mast n (cond b (refused r.number r.values) (rows then accepted x)) next).outcome ≡ cond b (refused r.number r.values) (rows then (next x).outcome)
    go true rest = refl
    go false rest = rest

mast-by_rows : (n : ℕ) (s : List ℕ) (next : Readings → VoteOutcome) (rest : List Row) (f : Figures) → (next (readings s)).outcome ≡ (rest then accepted f)
    → (after_mast n (accepted_readings s) next).outcome ≡ ((record_rows false s ++ rest) then accepted f)
mast-by_rows n s next rest f e =
    ap (λ (a : Outcome Readings). (after_mast n a next).outcome) (accepted-by_rows s) ∙ after-rows n (record_rows false s) (readings s) next
    ∙ ap (λ (o : Outcome Figures). record_rows false s then o) e ∙ sym (then_append (record_rows false s) rest (accepted f))

pub caused : (a b c : List ℕ) → Caused a b c
unfolding vote voted_outcome judged
caused a b c =
    let f = figures_of (resolved (voted_readings a b c)) in
    let last = shared_rows (readings a) (readings b) (readings c) ++ reading_rows (voted_readings a b c) in
    let of_c = mast-by_rows 3 c (λ t. by_no_mast (voted_outcome (readings a) (readings b) t)) last f refl in
    let of-b = mast-by_rows 2 b (λ s. after_mast 3 (accepted_readings c) (λ t. by_no_mast (voted_outcome (readings a) s t))) (record_rows false c ++ last) f of_c in
    exactly-by f (vote_rows a b c)
    (mast-by_rows 1 a (λ r. after_mast 2 (accepted_readings b) (λ s. after_mast 3 (accepted_readings c) (λ t. by_no_mast (voted_outcome r s t)))) (record_rows false b ++ (record_rows false c ++ last)) f of-b)

-- ---- the masts: which is the first that is refused
data First (a b c : List ℕ) : Type 0 where
  is_1 : (n : ℕ) (vs : List Float) → judge a ≡ refused n vs → First a b c
  is_2 : Accepts a → (n : ℕ) (vs : List Float) → judge b ≡ refused n vs → First a b c
  is_3 : Accepts a → Accepts b → (n : ℕ) (vs : List Float) → judge c ≡ refused n vs → First a b c
  none : Accepts a → Accepts b → Accepts c → First a b c

first : (a b c : List ℕ) → First a b c
first a b c = go (judge a) (judge b) (judge c) refl refl refl
  where
    go : (o p q : Outcome Figures) → judge a ≡ o → judge b ≡ p → judge c ≡ q → First a b c
    go (refused n vs) p q e f g = is_1 n vs e
    go (accepted x) (refused n vs) q e f g = is_2 (x, e) n vs f
    go (accepted x) (accepted y) (refused n vs) e f g = is_3 (x, e) (y, f) n vs g
    go (accepted x) (accepted y) (accepted z) e f g = none (x, e) (y, f) (z, g)

-- an accepted record's readings
accepts : (s : List ℕ) → Accepts s → accepted_readings s ≡ accepted (readings s)
unfolding judge
accepts s (f, e) = accepted-by_rows s ∙ then-none (record_rows false s) ((mast.caused false s).accepted_because e).0

masts_accepted : (a b c : List ℕ) → Accepts a → Accepts b → Accepts c → vote a b c ≡ by_no_mast (voted_outcome (readings a) (readings b) (readings c))
unfolding vote
masts_accepted a b c p q r = rw (accepts a p, accepts b q, accepts c r)

module _ (a b c : List ℕ) (number : ℕ) (values : List Float) where
  -- one vote names one mast
  apart : {m n : ℕ} {o p : Outcome Figures} → vote a b c ≡ by_mast m o → vote a b c ≡ by_mast n p → m ≡ n
  apart e f = ap (λ (v : VoteOutcome). v.mast) (sym e ∙ f)

  same : {m n : ℕ} {o p : Outcome Figures} → vote a b c ≡ by_mast m o → vote a b c ≡ by_mast n p → o ≡ p
  same e f = ap (λ (v : VoteOutcome). v.outcome) (sym e ∙ f)

  named_1 : First a b c → vote a b c ≡ by_mast 1 (refused number values) → judge a ≡ refused number values
  named_1 (is_1 n vs h) e = h ∙ same ((masts_in_order a b c n vs).mast_1 h) e
  named_1 (is_2 p n vs h) e = let z = apart ((masts_in_order a b c n vs).mast_2 p h) e in absurd (omega arith)
  named_1 (is_3 p q n vs h) e = let z = apart ((masts_in_order a b c n vs).mast_3 p q h) e in absurd (omega arith)
  named_1 (none p q r) e = let z = apart (masts_accepted a b c p q r) e in absurd (omega arith)

  named_2 : First a b c → vote a b c ≡ by_mast 2 (refused number values) → Accepts a × (judge b ≡ refused number values)
  named_2 (is_1 n vs h) e = let z = apart ((masts_in_order a b c n vs).mast_1 h) e in absurd (omega arith)
  named_2 (is_2 p n vs h) e = (p, h ∙ same ((masts_in_order a b c n vs).mast_2 p h) e)
  named_2 (is_3 p q n vs h) e = let z = apart ((masts_in_order a b c n vs).mast_3 p q h) e in absurd (omega arith)
  named_2 (none p q r) e = let z = apart (masts_accepted a b c p q r) e in absurd (omega arith)

  named_3 : First a b c → vote a b c ≡ by_mast 3 (refused number values) → Accepts a × (Accepts b × (judge c ≡ refused number values))
  named_3 (is_1 n vs h) e = let z = apart ((masts_in_order a b c n vs).mast_1 h) e in absurd (omega arith)
  named_3 (is_2 p n vs h) e = let z = apart ((masts_in_order a b c n vs).mast_2 p h) e in absurd (omega arith)
  named_3 (is_3 p q n vs h) e = (p, (q, h ∙ same ((masts_in_order a b c n vs).mast_3 p q h) e))
  named_3 (none p q r) e = let z = apart (masts_accepted a b c p q r) e in absurd (omega arith)

pub masts_named : (a b c : List ℕ) (number : ℕ) (values : List Float) → NamedBecause a b c number values
masts_named a b c number values =
    record {
      mast_1 = named_1 a b c number values (first a b c);
      mast_2 = named_2 a b c number values (first a b c);
      mast_3 = named_3 a b c number values (first a b c);
    }

pub no_mast-named : (a b c : List ℕ) → Accepts a → Accepts b → Accepts c → (vote a b c).mast ≡ 0
no_mast-named a b c p q r = ap (λ (v : VoteOutcome). v.mast) (masts_accepted a b c p q r)

-- ---- 21
missing_where : (p q r : Bool) → 1 ≤ one_if p + one_if q + one_if r → one_if p + one_if q + one_if r ≤ 2 → ((p || q || r) && not (p && q && r)) ≡ true
missing_where true true true l h = absurd (omega arith)
missing_where true true false l h = refl
missing_where true false r l h = refl
missing_where false true r l h = refl
missing_where false false true l h = refl
missing_where false false false l h = absurd (omega arith)

missing-because : (p q r : Bool) → ((p || q || r) && not (p && q && r)) ≡ true → (1 ≤ one_if p + one_if q + one_if r) × (one_if p + one_if q + one_if r ≤ 2)
missing-because true true true e = absurd (false≢true e)
missing-because true true false e = (omega arith, omega arith)
missing-because true false true e = (omega arith, omega arith)
missing-because true false false e = (omega arith, omega arith)
missing-because false true true e = (omega arith, omega arith)
missing-because false true false e = (omega arith, omega arith)
missing-because false false true e = (omega arith, omega arith)
missing-because false false false e = absurd (false≢true e)

module _ (a b c : Readings) where
  abbrev missing : ℕ → Bool
  missing m = is_not_in_all (entry_of a m) (entry_of b m) (entry_of c m)

  any_where : (n m : ℕ) → m < n → missing m ≡ true → not_in_all_of n a b c ≡ true
  unfolding not_in_all_of
  any_where zero m h e = absurd (omega arith)
  any_where (suc n) m h e = go (eq-or-lt_of_le (le_of_suc-le-suc h)) (any_where n m)
    where
      go : (m ≡ n) ⊎ (m < n) → (m < n → missing m ≡ true → not_in_all_of n a b c ≡ true) → (not_in_all_of n a b c || missing n) ≡ true
      go (inl same) before = ap (λ (t : Bool). not_in_all_of n a b c || t) (ap missing (sym same) ∙ e) ∙ or-true (not_in_all_of n a b c)
      go (inr less) before = ap (λ (t : Bool). t || missing n) (before less e)

  any_because : (n : ℕ) → not_in_all_of n a b c ≡ true → (m : ℕ) × ((m < n) × (missing m ≡ true))
  unfolding not_in_all_of
  any_because zero e = absurd (false≢true e)
  any_because (suc n) e = go (not_in_all_of n a b c) refl (any_because n) e
    where
      go : (t : Bool) → not_in_all_of n a b c ≡ t → (t ≡ true → (m : ℕ) × ((m < n) × (missing m ≡ true))) → (t || missing n) ≡ true → (m : ℕ) × ((m < suc n) × (missing m ≡ true))
      go true told before e = let w = before refl in (w.0, (omega arith, w.1.1))
      go false told before e = (n, (omega arith, e))

voted-so : (a b c : Readings) {vs : List Float} → voted_outcome a b c ≡ refused 21 vs → any_not_in_all a b c ≡ true
unfolding voted_outcome judged
voted-so a b c {vs} e = go (any_not_in_all a b c) refl e
  where
    go : (t : Bool) → any_not_in_all a b c ≡ t → cond t (refused 21 []) (judged (voted a b c)) ≡ refused 21 vs → any_not_in_all a b c ≡ true
    go true told e = told
    go false told e = let r = voted a b c in absurd (never-refused 21 (figures_of (resolved r)) (reading_rows r) (readings-never 21 (omega arith) r) e)

module _ (a b c : List ℕ) where
  -- no mast's own refusal is 21
  by_mast_lem : (s : List ℕ) {m n : ℕ} {ws vs : List Float} → judge s ≡ refused n ws → vote a b c ≡ by_mast m (refused n ws) → (vote a b c).outcome ≡ refused 21 vs → ⊥
  unfolding judge
  by_mast_lem s h f e = record_never 21 (omega arith) false s (h ∙ sym (ap (λ (v : VoteOutcome). v.outcome) f) ∙ e)

  because : {vs : List Float} → First a b c → (vote a b c).outcome ≡ refused 21 vs → (Accepts a × (Accepts b × Accepts c)) × InOneOrTwo a b c
  because (is_1 n ws h) e = absurd (by_mast_lem a h ((masts_in_order a b c n ws).mast_1 h) e)
  because (is_2 p n ws h) e = absurd (by_mast_lem b h ((masts_in_order a b c n ws).mast_2 p h) e)
  because (is_3 p q n ws h) e = absurd (by_mast_lem c h ((masts_in_order a b c n ws).mast_3 p q h) e)
  because (none p q r) e =
      let any = voted-so (readings a) (readings b) (readings c) (sym (ap (λ (v : VoteOutcome). v.outcome) (masts_accepted a b c p q r)) ∙ e) in
      let w = any_because (readings a) (readings b) (readings c) meanings any in
      let m = w.0 in
      ((p, (q, r)), (m, (w.1.0, missing-because (is_some (entry_of (readings a) m)) (is_some (entry_of (readings b) m)) (is_some (entry_of (readings c) m)) w.1.1)))

  so : Accepts a → Accepts b → Accepts c → InOneOrTwo a b c → vote a b c ≡ by_no_mast (refused 21 [])
  unfolding voted_outcome
  so p q r (m, (is, (low, high))) =
      let here = missing_where (is_some (entry_of (readings a) m)) (is_some (entry_of (readings b) m)) (is_some (entry_of (readings c) m)) low high in
      masts_accepted a b c p q r
      ∙ ap (λ (t : Bool). by_no_mast (cond t (refused 21 []) (judged (voted_readings a b c)))) (any_where (readings a) (readings b) (readings c) meanings m is here)

  pub field-missing : FieldMissing a b c
  field-missing = record { refused_because = λ vs e. because (first a b c) e; refused_where = so }
