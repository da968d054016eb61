-- Lists of rows: one after the other, what comes after them, and that an outcome of rows is exactly caused by them. Assumes nothing.
use Rattle.std.specs.Prelude.{Result}
use Rattle.refusal.specs.declared.Refusal.{Refusal}
use Rattle.arithmetic.proofs.Kit.{◌≡◌, refl, sym, ap, ap₂, subst, ◌∙◌, Bool, true, false, cond, true≢false, ◌⊎◌, inl, inr, List, [], ◌∷◌, ◌++◌, ℕ, arith, Float}
use Rattle.refusal.specs.Outcomes.{Outcome, accepted, refused, ◌⟫◌, Row, ◌then◌, numbers, passed, outcome}
use Rattle.refusal.specs.Causes.{NoneHolds, FirstHolds, ExactlyCaused}

-- ---- one list after the other
by_first : {A : Type 0} (b : Bool) (n : ℕ) (vs : List Float) {o p : Outcome A} → o ≡ p → cond b (refused n vs) o ≡ cond b (refused n vs) p
by_first b n vs e = ap (cond b (refused n vs)) e

pub then_append : {A : Type 0} (xs ys : List Row) (o : Outcome A) → ((xs ++ ys) then o) ≡ (xs then ys then o)
then_append [] ys o = refl
then_append (r ∷ xs) ys o = by_first r.holds r.number r.values (then_append xs ys o)

pub then_next : {A B : Type 0} (xs : List Row) (o : Outcome A) (k : A → Outcome B) → ((xs then o) ⟫ k) ≡ (xs then (o ⟫ k))
then_next [] o k = refl
then_next (r ∷ xs) o k = go r.holds (then_next xs o k)
  where
    go : (b : Bool) → ((xs then o) ⟫ k) ≡ (xs then (o ⟫ k)) → (cond b (refused r.number r.values) (xs then o) ⟫ k) ≡ cond b (refused r.number r.values) (xs then (o ⟫ k))
    go true rest = refl
    go false rest = rest

-- what comes after rows that accept x, where it is rows too
pub then-rows : {A B : Type 0} (xs ys : List Row) (x : A) (y : B) (next : A → Outcome B) → next x ≡ (ys then accepted y) → ((xs then accepted x) ⟫ next) ≡ ((xs ++ ys) then accepted y)
then-rows {A} {B} xs ys x y next e = then_next xs (accepted x) next ∙ ap (λ (o : Outcome B). xs then o) e ∙ sym (then_append xs ys (accepted y))

pub numbers-append : (xs ys : List Row) → numbers (xs ++ ys) ≡ numbers xs ++ numbers ys
numbers-append [] ys = refl
numbers-append (r ∷ xs) ys = ap (λ (ns : List ℕ). r.number ∷ ns) (numbers-append xs ys)

pub passed-append : (xs ys : List Row) → (passed xs ⟫ λ _. passed ys) ≡ passed (xs ++ ys)
passed-append xs ys = then_next xs (accepted tt) (λ _. passed ys) ∙ sym (then_append xs ys (accepted tt))

-- the first refusal of two checks
pub first-passed : (xs ys : List Row) {o p q : Outcome (Unit {0})} → o ≡ (p ⟫ (λ _. q)) → p ≡ passed xs → q ≡ passed ys → o ≡ passed (xs ++ ys)
first-passed xs ys e f g = e ∙ ap₂ (λ (p q : Outcome (Unit {0})). p ⟫ (λ _. q)) f g ∙ passed-append xs ys

-- what comes after a check k that is found to be k'
pub after_check : {A : Type 0} (rows : List Row) (o : Outcome A) {k k' : (Result (Unit {0}) Refusal)} → k ≡ k' → outcome k ≡ passed rows → (outcome k' ⟫ (λ _. o)) ≡ (rows then o)
after_check rows o told e = ap (λ (p : Outcome (Unit {0})). p ⟫ (λ _. o)) (sym (ap outcome told) ∙ e) ∙ then_next rows (accepted tt) (λ _. o)

-- ---- where no row holds
pub then-none : {A : Type 0} {o : Outcome A} (rows : List Row) → NoneHolds rows → (rows then o) ≡ o
then-none [] h = refl
then-none {A} {o} (r ∷ rows) h = ap (λ (b : Bool). cond b (refused r.number r.values) (rows then o)) h.0 ∙ then-none rows h.1

-- none of a part of the rows
pub none_before : (xs ys : List Row) → NoneHolds (xs ++ ys) → NoneHolds xs
none_before [] ys h = tt
none_before (r ∷ xs) ys h = (h.0, none_before xs ys h.1)

pub none_after : (xs ys : List Row) → NoneHolds (xs ++ ys) → NoneHolds ys
none_after [] ys h = h
none_after (r ∷ xs) ys h = none_after xs ys h.1

pub none_both : (xs ys : List Row) → NoneHolds xs → NoneHolds ys → NoneHolds (xs ++ ys)
none_both [] ys h k = k
none_both (r ∷ xs) ys h k = (h.0, none_both xs ys h.1 k)

-- where a row holds, nothing after them matters
pub decided : {A : Type 0} (rows : List Row) → NoneHolds rows ⊎ ((o p : Outcome A) → (rows then o) ≡ (rows then p))
decided [] = inl tt
decided {A} (r ∷ rows) = go r.holds refl (decided rows)
  where
    go : (b : Bool) → r.holds ≡ b → NoneHolds rows ⊎ ((o p : Outcome A) → (rows then o) ≡ (rows then p))
        → ((r.holds ≡ false) × NoneHolds rows) ⊎ ((o p : Outcome A) → ((r ∷ rows) then o) ≡ ((r ∷ rows) then p))
    go true h rest = inr (λ o p. rw h)
    go false h (inl none) = inl (h, none)
    go false h (inr same) = inr (λ o p. by_first r.holds r.number r.values (same o p))

-- what comes after rows matters only there
pub then_to : {A : Type 0} {o p q : Outcome A} (rows : List Row) → (NoneHolds rows → o ≡ q → p ≡ q) → (rows then o) ≡ q → (rows then p) ≡ q
then_to [] next e = next tt e
then_to {A} {o} {p} {q} (r ∷ rows) next e = go r.holds refl e (λ h. then_to rows (λ none. next (h, none)))
  where
    go : (b : Bool) → r.holds ≡ b → cond b (refused r.number r.values) (rows then o) ≡ q → (r.holds ≡ false → (rows then o) ≡ q → (rows then p) ≡ q)
        → cond b (refused r.number r.values) (rows then p) ≡ q
    go true h e rest = e
    go false h e rest = rest h e

pub then_same : {A : Type 0} {o p : Outcome A} (rows : List Row) → (NoneHolds rows → o ≡ p) → (rows then o) ≡ (rows then p)
then_same rows same = sym (then_to rows (λ none e. sym (same none) ∙ e) refl)

pub then-accepted : {A : Type 0} {o : Outcome A} {y : A} (rows : List Row) → (rows then o) ≡ accepted y → NoneHolds rows × (o ≡ accepted y)
then-accepted [] e = (tt, e)
then-accepted {A} {o} {y} (r ∷ rows) e = go r.holds refl e (λ f. then-accepted rows f)
  where
    go : (b : Bool) → r.holds ≡ b → cond b (refused r.number r.values) (rows then o) ≡ accepted y → ((rows then o) ≡ accepted y → NoneHolds rows × (o ≡ accepted y))
        → ((r.holds ≡ false) × NoneHolds rows) × (o ≡ accepted y)
    go true h e rest = let z : ◌≡◌ {A = ℕ} 0 1 = cc in absurd (omega arith)
    go false h e rest = ((h, (rest e).0), (rest e).1)

-- ---- the first row that holds
module _ {A : Type 0} (x : A) where
  -- the first row that holds, one row further down
  below : (r : Row) {rows : List Row} {n : ℕ} {vs : List Float} → r.holds ≡ false → FirstHolds rows n vs → FirstHolds (r ∷ rows) n vs
  below r h f = record { earlier = r ∷ f.earlier; here = f.here; later = f.later; all = ap (λ (l : List Row). r ∷ l) f.all; none = (h, f.none); holds = f.holds; numbered = f.numbered; valued = f.valued }

  refusing : (rows : List Row) {n : ℕ} {vs : List Float} → (rows then accepted x) ≡ refused n vs → FirstHolds rows n vs
  refusing [] e = let z : ◌≡◌ {A = ℕ} 0 1 = cc in absurd (omega arith)
  refusing (r ∷ rows) {n} {vs} e = go r.holds refl e (λ f. refusing rows f)
    where
      go : (b : Bool) → r.holds ≡ b → cond b (refused r.number r.values) (rows then accepted x) ≡ refused n vs → ((rows then accepted x) ≡ refused n vs → FirstHolds rows n vs)
          → FirstHolds (r ∷ rows) n vs
      go true h e rest = record { earlier = []; here = r; later = rows; all = refl; none = tt; holds = h; numbered = cc; valued = cc }
      go false h e rest = below r h (rest e)

  refused-at : (rows : List Row) {n : ℕ} {vs : List Float} → FirstHolds rows n vs → (rows then accepted x) ≡ refused n vs
  refused-at rows {n} {vs} f =
      ap (λ (l : List Row). l then accepted x) f.all
      ∙ then_append f.earlier (f.here ∷ f.later) (accepted x) ∙ then-none f.earlier f.none
      ∙ ap (λ (b : Bool). cond b (refused f.here.number f.here.values) (f.later then accepted x)) f.holds
      ∙ ap₂ (λ (k : ℕ) (ws : List Float). refused k ws) f.numbered f.valued

  accepting : (rows : List Row) {y : A} → (rows then accepted x) ≡ accepted y → NoneHolds rows × (x ≡ y)
  accepting rows e = let a = then-accepted rows e in (a.0, cc)

  -- an outcome of rows is exactly caused by them
  pub exactly : (rows : List Row) → ExactlyCaused rows x (rows then accepted x)
  exactly rows = record { refused_because = λ e. refusing rows e; refused_where = λ f. refused-at rows f; accepted_because = λ e. accepting rows e; accepted_where = λ h. then-none rows h }

  pub exactly-by : (rows : List Row) {o : Outcome A} → o ≡ (rows then accepted x) → ExactlyCaused rows x o
  exactly-by rows e = subst (λ (o : Outcome A). ExactlyCaused rows x o) (sym e) (exactly rows)

-- ---- a number by which no row refuses
module _ (n : ℕ) where
  abbrev pub Never : List Row → Type 0
  Never [] = Unit {0}
  Never (r ∷ rows) = (r.number ≡ n → r.holds ≡ false) × Never rows

  pub never_both : (xs ys : List Row) → Never xs → Never ys → Never (xs ++ ys)
  never_both [] ys h k = k
  never_both (r ∷ xs) ys h k = (h.0, never_both xs ys h.1 k)

  pub never-refused : {A : Type 0} (x : A) (rows : List Row) {vs : List Float} → Never rows → (rows then accepted x) ≡ refused n vs → ⊥
  never-refused x [] h e = let z : ◌≡◌ {A = ℕ} 0 1 = cc in omega arith
  never-refused x (r ∷ rows) {vs} h e = go r.holds refl e (λ f. never-refused x rows h.1 f)
    where
      go : (b : Bool) → r.holds ≡ b → cond b (refused r.number r.values) (rows then accepted x) ≡ refused n vs → ((rows then accepted x) ≡ refused n vs → ⊥) → ⊥
      go true holds e rest = let number : r.number ≡ n = cc in true≢false (sym holds ∙ h.0 number)
      go false holds e rest = rest e
