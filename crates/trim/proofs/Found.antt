-- What the search finds: of one change, of the four changes by one count, and of the counts from k on. Assumes nothing.
use Rattle.std.specs.Prelude.{None, Some}
use Rattle.trim.proofs.Kit.{◌≡◌, refl, sym, ap, subst, ◌∙◌, Bool, true, false, cond, ⊎_elim, ℕ, zero, suc, ◌+◌, ◌≤◌, ◌<◌, eq-or-lt_of_le, arith, eqb-true, eqb-false, T, leb, eqb, leb→le, Outcome, accepted, refused, Quantity, Temperature, MeasuredPressure, Up, Down, Change, Turn, Option, Start, class_of, changed, change, another, tried, changes_of, changes_from, first_of, rank, place, Gives}
use Rattle.trim.specs.declared.changes.Direction.{Direction}
use Rattle.trim.proofs.First.{first-append}

abbrev pub NotGiven : Start → Change → Type 0
NotGiven s x = (m : ℕ) → Gives s x m → ⊥

abbrev pub turn : Change → ℕ → (Option Turn)
turn x n = Some (record { change = x; class = n })

-- ---- one change
data Tried (s : Start) (x : Change) : Type 0 where
  gives : (n : ℕ) → Gives s x n → tried s x ≡ turn x n → Tried s x
  gives_not : NotGiven s x → tried s x ≡ None → Tried s x

try : (s : Start) (x : Change) → Tried s x
unfolding tried
try s x = go (class_of (changed s x)) refl
  where
    by-class : (n : ℕ) (b : Bool) → class_of (changed s x) ≡ accepted n → eqb n s.class ≡ b → Tried s x
    by-class n true e same =
        gives_not
        (λ m g. g.another (let h : n ≡ m = cc in sym h ∙ eqb-true n s.class same))
        (ap (another s.class x) e ∙ ap (λ (b : Bool). cond b None (turn x n)) same)
    by-class n false e differs =
        gives n
        (record { class = e; another = eqb-false n s.class differs })
        (ap (another s.class x) e ∙ ap (λ (b : Bool). cond b None (turn x n)) differs)

    go : (o : Outcome ℕ) → class_of (changed s x) ≡ o → Tried s x
    go (accepted n) e = by-class n (eqb n s.class) e refl
    go (refused number values) e = gives_not (λ m g. let z : ◌≡◌ {A = ℕ} 0 1 = cc in omega arith) (ap (another s.class x) e)

-- ---- the four by one count
beyond : {A : Type 0} (i r : ℕ) → T (leb r i) → i < r → A
beyond i r t h = absurd (omega (arith, leb→le r i t))

module _ (s : Start) (k : ℕ) where
  abbrev Below : ℕ → Type 0
  Below r = (q : Quantity) (d : Direction) → rank q d < r → NotGiven s (change q d k)

  below : (r : ℕ) → (0 < r → NotGiven s (change Temperature Up k)) → (1 < r → NotGiven s (change Temperature Down k))
      → (2 < r → NotGiven s (change MeasuredPressure Up k)) → (3 < r → NotGiven s (change MeasuredPressure Down k)) → Below r
  below r a b c d Temperature Up h = a h
  below r a b c d Temperature Down h = b h
  below r a b c d MeasuredPressure Up h = c h
  below r a b c d MeasuredPressure Down h = d h

  data ByCount : Type 0 where
    gives-by : (q : Quantity) (d : Direction) (n : ℕ) → Gives s (change q d k) n → Below (rank q d)
        → first_of s (changes_of k) ≡ turn (change q d k) n → ByCount
    gives_not_by : Below 4 → first_of s (changes_of k) ≡ None → ByCount

  four : Tried s (change Temperature Up k) → Tried s (change Temperature Down k)
      → Tried s (change MeasuredPressure Up k) → Tried s (change MeasuredPressure Down k) → ByCount
  unfolding first_of
  four (gives n g e) t p q = gives-by Temperature Up n g (below 0 (beyond 0 0 tt) (beyond 1 0 tt) (beyond 2 0 tt) (beyond 3 0 tt)) (simp e)
  four (gives_not a d) (gives n g e) p q = gives-by Temperature Down n g (below 1 (λ h. a) (beyond 1 1 tt) (beyond 2 1 tt) (beyond 3 1 tt)) (simp (d, e))
  four (gives_not a d) (gives_not b e) (gives n g f) q = gives-by MeasuredPressure Up n g (below 2 (λ h. a) (λ h. b) (beyond 2 2 tt) (beyond 3 2 tt)) (simp (d, e, f))
  four (gives_not a d) (gives_not b e) (gives_not c f) (gives n g i) =
      gives-by MeasuredPressure Down n g (below 3 (λ h. a) (λ h. b) (λ h. c) (beyond 3 3 tt)) (simp (d, e, f, i))
  four (gives_not a d) (gives_not b e) (gives_not c f) (gives_not g i) =
      gives_not_by (below 4 (λ h. a) (λ h. b) (λ h. c) (λ h. g)) (simp (d, e, f, i))

  by_count : ByCount
  by_count = four (try s _) (try s _) (try s _) (try s _)

rank_lt : (q : Quantity) (d : Direction) → rank q d < 4
rank_lt Temperature Up = omega arith
rank_lt Temperature Down = omega arith
rank_lt MeasuredPressure Up = omega arith
rank_lt MeasuredPressure Down = omega arith

-- a change by k tenths that is not given by its quantity and direction
of-count : (s : Start) (k r : ℕ) → Below s k r → (y : Change) → y.tenths ≡ k → rank y.quantity y.direction < r → NotGiven s y
of-count s k r none y e h m g = none y.quantity y.direction h m (subst (λ (i : ℕ). Gives s (change y.quantity y.direction i) m) e g)

-- ---- n counts from k on
pub data FromCount (s : Start) (n k : ℕ) : Type 0 where
  gives-from : (x : Change) (m : ℕ) → k ≤ x.tenths → x.tenths < n + k → Gives s x m
      → ((y : Change) → k ≤ y.tenths → place y < place x → NotGiven s y) → first_of s (changes_from n k) ≡ turn x m → FromCount s n k
  gives_not_from : ((y : Change) → k ≤ y.tenths → y.tenths < n + k → NotGiven s y) → first_of s (changes_from n k) ≡ None → FromCount s n k

module _ (s : Start) (n k : ℕ) where
  none-of-count : (y : Change) → Below s k 4 → y.tenths ≡ k → NotGiven s y
  none-of-count y none e = of-count s k 4 none y e (rank_lt y.quantity y.direction)

  joined : ByCount s k → FromCount s n (suc k) → FromCount s (suc n) k
  unfolding changes_from
  joined (gives-by q d m g none e) later =
      gives-from (change q d k) m (omega arith) (omega arith) g
      (λ y low before. of-count s k (rank q d) none y (omega (arith, rank_lt q d)) (omega (arith, rank_lt q d)))
      (first-append s (changes_of k) (changes_from n (suc k)) ∙ simp e)
  joined (gives_not_by none e) (gives-from x m low high g before f) =
      gives-from x m (omega arith) (omega arith) g
      (λ y low' earlier. ⊎_elim (λ same. none-of-count y none (sym same)) (λ more. before y more earlier) (eq-or-lt_of_le low'))
      (first-append s (changes_of k) (changes_from n (suc k)) ∙ simp (e, f))
  joined (gives_not_by none e) (gives_not_from later f) =
      gives_not_from
      (λ y low high. ⊎_elim (λ same. none-of-count y none (sym same)) (λ more. later y more (omega arith)) (eq-or-lt_of_le low))
      (first-append s (changes_of k) (changes_from n (suc k)) ∙ simp (e, f))

pub from-count : (s : Start) (n k : ℕ) → FromCount s n k
unfolding first_of changes_from
from-count s zero k = gives_not_from (λ y low high. absurd (omega arith)) refl
from-count s (suc n) k = joined s n k (by_count s k) (from-count s n (suc k))
