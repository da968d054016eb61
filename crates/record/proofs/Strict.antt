-- The strict reader beside the first: where the tags rise they try the same rows, and else they give the same outcome or the strict one refuses by 19.
-- Assumes nothing.
use Rattle.record.proofs.Kit.{◌≡◌, refl, sym, ap, ap₂, ◌∙◌, Bool, true, false, ◌&&◌, cond, List, [], ◌∷◌, ◌++◌, map, ◌⊎◌, inl, inr, ⊎_elim, ℕ, le-ltb, ltb-false, ltb, Outcome, accepted, refused, Row, row, ◌then◌, NoneHolds, then_append, then-accepted, then-none, none_before, none_after, decided, Readings, tag_of, field, head_rows, heads, order_rows, noted, rows_of, read_rows, readings, read_record, no_readings, is_some, entry_of}
use Rattle.fields.specs.Tags.{tags, RisingFrom, Rising}
use Rattle.record.proofs.Walk.{field_rows}
use Rattle.record.proofs.EntryLaws.{in_order}

-- ---- where the tags rise
same_rows : (r : Readings) (last : ℕ) (fs : List (List ℕ)) → RisingFrom last (map tag_of fs) → rows_of true r last fs ≡ rows_of false r last fs
unfolding field
same_rows r last [] h = refl
same_rows r last (s ∷ fs) h =
    let f = field s in
    ap₂ (λ (falls : Bool) (rest : List Row). (head_rows s ++ row (is_some (entry_of r f.meaning)) 8 [] ∷ row falls 19 [] ∷ []) ++ rest)
    (le-ltb (tag_of s) last h.0) (same_rows (noted r f) (tag_of s) fs h.1)

pub same_where_rising : (s : List ℕ) → Rising (tags s) → read_record true s ≡ read_record false s
same_where_rising s h = ap (λ (rows : List Row). rows then accepted (readings s)) (same_rows no_readings 0 (heads s) h)

-- ---- what the strict reader accepts
rising : (r : Readings) (last : ℕ) (fs : List (List ℕ)) → NoneHolds (rows_of true r last fs) → RisingFrom last (map tag_of fs)
unfolding field
rising r last [] none = tt
rising r last (s ∷ fs) none =
    let q = noted r (field s) in
    let rows = field_rows true r last s in
    let rest = rows_of true q (tag_of s) fs in
    (ltb-false (tag_of s) last (in_order true r last s (none_before rows rest none)), rising q (tag_of s) fs (none_after rows rest none))

pub accepted-rising : (s : List ℕ) {q : Readings} → read_record true s ≡ accepted q → Rising (tags s)
accepted-rising s e = rising no_readings 0 (heads s) (then-accepted (read_rows true s) e).0

-- ---- any record
abbrev Alike : Outcome Readings → Outcome Readings → Type 0
Alike p q = (p ≡ q) ⊎ (p ≡ refused 19 [])

-- rows that both try, then the strict reader's 19
after : (rows : List Row) (falls : Bool) {p q : Outcome Readings} → Alike p q → Alike (rows then cond falls (refused 19 []) p) (rows then q)
after rows falls {p} {q} rest = ⊎_elim (λ none. go falls rest none) (λ same. inl (same (cond falls (refused 19 []) p) q)) (decided rows)
  where
    go : (b : Bool) → Alike p q → NoneHolds rows → Alike (rows then cond b (refused 19 []) p) (rows then q)
    go true h none = inr (then-none rows none)
    go false h none = ⊎_elim (λ e. inl (ap (λ (u : Outcome Readings). rows then u) e)) (λ e. inr (then-none rows none ∙ e)) h

-- the rows of a field that both try
abbrev common : Readings → List ℕ → List Row
common r s = head_rows s ++ row (is_some (entry_of r (field s).meaning)) 8 [] ∷ []

-- and then 19
parted : (strict : Bool) (r : Readings) (last : ℕ) (s : List ℕ) (rest : List Row) (o : Outcome Readings)
    → ((field_rows strict r last s ++ rest) then o) ≡ (common r s then cond (strict && ltb (field s).tag last) (refused 19 []) (rest then o))
parted strict r last s rest o =
    let falls = strict && ltb (field s).tag last in
    then_append (field_rows strict r last s) rest o
    ∙ then_append (head_rows s) (order_rows strict r last (field s)) (rest then o)
    ∙ sym (then_append (head_rows s) (row (is_some (entry_of r (field s).meaning)) 8 [] ∷ []) (cond falls (refused 19 []) (rest then o)))

alike : (r : Readings) (last : ℕ) (fs : List (List ℕ)) (o : Outcome Readings) → Alike (rows_of true r last fs then o) (rows_of false r last fs then o)
alike r last [] o = inl refl
alike r last (s ∷ fs) o =
    let q = noted r (field s) in
    rw (parted true r last s (rows_of true q (tag_of s) fs) o, parted false r last s (rows_of false q (tag_of s) fs) o)
    (after (common r s) (ltb (field s).tag last) (alike q (tag_of s) fs o))

pub same_or_falling : (s : List ℕ) → (read_record true s ≡ read_record false s) ⊎ (read_record true s ≡ refused 19 [])
same_or_falling s = alike no_readings 0 (heads s) (accepted (readings s))
