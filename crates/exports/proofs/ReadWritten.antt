-- Arrays that are read of a record and those that are written as one undo each other. Assumes nothing.
use Rattle.std.specs.Prelude.{None, Option, Some}
use Rattle.arithmetic.proofs.Kit.{◌≡◌, refl, sym, ap, subst, ◌∙◌, ⊎_elim, Bool, true, false, cond, not, ◌&&◌, ℕ, zero, suc, ◌≤◌, ◌<◌, arith, T, leb-true, eqb, eqb-true, eqb-false, ltb, not-false, false≢true, List, [], ◌∷◌, ◌++◌, length, length-append, length-set, get_or, drop, Float, nan, fits, is_nan, binary64}
use lib.ListN.{get_or-append}
use lib.Seq.{get_or_at, ext_get_or}
use Rattle.refusal.specs.Outcomes.{Outcome, accepted, refused, row}
use Rattle.refusal.specs.Causes.{NoneHolds}
use Rattle.refusal.proofs.Rows.{then-accepted, exactly}
use Rattle.fields.specs.declared.fields.Value.{Value}
use Rattle.fields.specs.declared.fields.Value.TheVariants.{Double, Count}
use Rattle.fields.specs.Fields.{meanings}
use Rattle.record.specs.declared.entries.Readings.{Readings}
use Rattle.record.specs.Entries.{stored_of, with_value}
use Rattle.record.specs.Readings.{readings, read_rows, read_record}
use Rattle.record.proofs.Walk.{all_slots}
use Rattle.record.proofs.Strict.{same_or_falling}
use Rattle.writer.specs.Records.{record_of}
use Rattle.writer.specs.Laws.{AreHeld, IsHeld, AreBytes}
use Rattle.writer.proofs.Passed.{no_stored, is-meant, stored_same, stored_other}
use Rattle.writer.proofs.ReadBack.{read_back}
use Rattle.writer.proofs.Stated.{NotNan}
use Rattle.writer.proofs.WrittenAgain.{written-again}
use Rattle.exports.specs.Lent.{with_room, handed_out}
use Rattle.exports.specs.Records.{is_form, are_forms, with_form, array_readings, array_record}
use Rattle.exports.specs.Reads.{form_of, double_for, count_for, each, read_in}
use Rattle.exports.specs.Laws.{AreNumbers, NoneIsNan, written_of, ReadAs}
use Rattle.exports.proofs.Each.{as_many}
use Rattle.exports.proofs.Room.{roomy}

-- ---- what three numbers store
abbrev stored_as : ℕ → Float → ℕ → Option Value
stored_as form x word = cond (eqb form 1) (Some (Double x)) (cond (eqb form 2) (Some (Count word)) None)

module _ (q : Readings) (k form : ℕ) (x : Float) (word : ℕ) where
  pub form-length : length (with_form q k form x word).slots ≡ length q.slots
  unfolding with_form
  form-length = go (eqb form 1) (eqb form 2)
    where
      go : (a b : Bool) → length (cond a (with_value q k (Double x)) (cond b (with_value q k (Count word)) q)).slots ≡ length q.slots
      go true b = length-set q.slots k (Some (Double x))
      go false true = length-set q.slots k (Some (Count word))
      go false false = refl

  form-here : k < length q.slots → stored_of q k ≡ None → stored_of (with_form q k form x word) k ≡ stored_as form x word
  unfolding with_form
  form-here room none = go (eqb form 1) (eqb form 2)
    where
      go : (a b : Bool) → stored_of (cond a (with_value q k (Double x)) (cond b (with_value q k (Count word)) q)) k
          ≡ cond a (Some (Double x)) (cond b (Some (Count word)) None)
      go true b = stored_same q k (Double x) room
      go false true = stored_same q k (Count word) room
      go false false = none

  form-other : (m : ℕ) → (m ≡ k → ⊥) → stored_of (with_form q k form x word) m ≡ stored_of q m
  unfolding with_form
  form-other m other = go (eqb form 1) (eqb form 2)
    where
      go : (a b : Bool) → stored_of (cond a (with_value q k (Double x)) (cond b (with_value q k (Count word)) q)) m ≡ stored_of q m
      go true b = stored_other q k (Double x) m other
      go false true = stored_other q k (Count word) m other
      go false false = refl

-- ---- the readings of arrays, meaning by meaning
module _ (forms : List ℕ) (values : List Float) (counts : List ℕ) where
  abbrev of : ℕ → Readings
  of n = array_readings n forms values counts

  abbrev at : ℕ → Option Value
  at m = stored_as (get_or forms m 0) (get_or values m nan) (get_or counts m 0)

  pub array_length : (n : ℕ) → length (of n).slots ≡ meanings
  unfolding array_readings
  array_length zero = refl
  array_length (suc k) = form-length (of k) k (get_or forms k 0) (get_or values k nan) (get_or counts k 0) ∙ array_length k

  not_yet : (n m : ℕ) → n ≤ m → stored_of (of n) m ≡ None
  unfolding array_readings
  not_yet zero m h = no_stored m
  not_yet (suc k) m h = form-other (of k) k (get_or forms k 0) (get_or values k nan) (get_or counts k 0) m (λ e. omega (arith, e, h)) ∙ not_yet k m (omega (arith, h))

  pub stored_at : (n m : ℕ) → n ≤ meanings → m < n → stored_of (of n) m ≡ at m
  unfolding array_readings
  stored_at zero m most h = absurd (omega (arith, h))
  stored_at (suc k) m most h = go (eqb m k) refl (λ less. stored_at k m (omega (arith, most)) less)
    where
      go : (b : Bool) → eqb m k ≡ b → (m < k → stored_of (of k) m ≡ at m) → stored_of (of (suc k)) m ≡ at m
      go true e before =
          let here : m ≡ k = eqb-true m k e in
          subst (λ (j : ℕ). stored_of (of (suc k)) j ≡ at j) (sym here)
          (form-here (of k) k (get_or forms k 0) (get_or values k nan) (get_or counts k 0) (omega (arith, array_length k, most)) (not_yet k k (omega arith)))
      go false e before =
          let other = eqb-false m k e in
          form-other (of k) k (get_or forms k 0) (get_or values k nan) (get_or counts k 0) m other ∙ before (omega (arith, h, other))

-- where each form is one of the three
both : (a b : Bool) → (a && b) ≡ true → (a ≡ true) × (b ≡ true)
both true b e = (refl, e)
both false b e = absurd (false≢true e)

forms_known : (n : ℕ) (forms : List ℕ) → are_forms n forms ≡ true → (m : ℕ) → m < n → get_or forms m 0 ≤ 2
unfolding are_forms
forms_known zero forms all m h = absurd (omega (arith, h))
forms_known (suc k) forms all m h = go (eqb m k) refl (forms_known k forms (both (are_forms k forms) _ all).0 m)
  where
    go : (b : Bool) → eqb m k ≡ b → (m < k → get_or forms m 0 ≤ 2) → get_or forms m 0 ≤ 2
    go true e before = leb-true (get_or forms m 0) 2 (ap (λ (j : ℕ). is_form (get_or forms j 0)) (eqb-true m k e) ∙ (both (are_forms k forms) _ all).1)
    go false e before = before (omega (arith, h, eqb-false m k e))

-- ---- readings that were read into arrays
back : (s : Option Value) → stored_as (form_of s) (double_for s) (count_for s) ≡ s
back None = refl
back (Some (Double x)) = refl
back (Some (Count word)) = refl

is_form_lem : (s : Option Value) → is_form (form_of s) ≡ true
is_form_lem None = refl
is_form_lem (Some (Double x)) = refl
is_form_lem (Some (Count word)) = refl

module _ (r : Readings) where
  pub each_at : {A : Type 0} (of : Option Value → A) (n m : ℕ) (d : A) → m < n → get_or (each of n r) m d ≡ of (stored_of r m)
  unfolding each
  each_at of zero m d h = absurd (omega (arith, h))
  each_at {A} of (suc k) m d h = go (eqb m k) refl (each_at of k m d)
    where
      go : (b : Bool) → eqb m k ≡ b → (m < k → get_or (each of k r) m d ≡ of (stored_of r m))
          → get_or (each of k r ++ (of (stored_of r k) ∷ [])) m d ≡ of (stored_of r m)
      go true e before =
          let here : m ≡ k = eqb-true m k e in
          get_or_at (each of k r) (of (stored_of r k)) [] d m (as_many of r k ∙ sym here) ∙ ap (λ (j : ℕ). of (stored_of r j)) (sym here)
      go false e before =
          let less : m < k = omega (arith, h, eqb-false m k e) in
          get_or-append (each of k r) (of (stored_of r k) ∷ []) d m (omega (arith, less, as_many of r k)) ∙ before less

  array_at : {A : Type 0} (of : Option Value → A) (xs : List A) (m : ℕ) (d : A) → m < meanings → get_or (handed_out (each of meanings r) xs) m d ≡ of (stored_of r m)
  array_at of xs m d h =
      get_or-append (each of meanings r) (drop (length (each of meanings r)) xs) d m (omega (arith, h, as_many of r meanings)) ∙ each_at of meanings m d h

  room : {A : Type 0} (of : Option Value → A) (xs : List A) → meanings ≤ length (handed_out (each of meanings r) xs)
  room of xs = omega (arith, length-append (each of meanings r) (drop (length (each of meanings r)) xs), as_many of r meanings)

  known : (forms : List ℕ) (n : ℕ) → n ≤ meanings → are_forms n (handed_out (each form_of meanings r) forms) ≡ true
  unfolding are_forms
  known forms zero most = refl
  known forms (suc k) most = rw (known forms k (omega (arith, most)), array_at form_of forms k 0 (omega (arith, most))) (is_form_lem (stored_of r k))

  module _ (all : length r.slots ≡ meanings) (forms : List ℕ) (values : List Float) (counts : List ℕ) where
    abbrev f : List ℕ
    f = handed_out (each form_of meanings r) forms

    abbrev v : List Float
    v = handed_out (each double_for meanings r) values

    abbrev w : List ℕ
    w = handed_out (each count_for meanings r) counts

    abbrev from : List (Option Value) → Readings
    from l = record { slots = l }

    array_back : array_readings meanings f v w ≡ r
    array_back =
        ap from (ext_get_or None (array_readings meanings f v w).slots r.slots (array_length f v w meanings ∙ sym all) (λ m h.
        let less : m < meanings = omega (arith, h, array_length f v w meanings) in
        stored_at f v w meanings m (omega arith) less
        ∙ rw (array_at form_of forms m 0 less, array_at double_for values m nan less, array_at count_for counts m 0 less) (back (stored_of r m))))

    pub written_back : written_of forms values counts r ≡ accepted (record_of r)
    written_back =
        rw (
          roomy meanings f (room form_of forms),
          roomy meanings v (room double_for values),
          roomy meanings w (room count_for counts),
          known forms meanings (omega arith),
        )
        (ap (λ (q : Readings). accepted (record_of q)) array_back)

-- ---- what has room is what it would be
with_room_lem : {A B : Type 0} (needed : ℕ) (lent : List B) (o : Outcome A) {x : A} → with_room needed lent o ≡ accepted x → o ≡ accepted x
unfolding with_room
with_room_lem {A} {B} needed lent o {x} e = go (ltb (length lent) needed) e
  where
    go : (b : Bool) → cond b (refused 255 []) o ≡ accepted x → o ≡ accepted x
    go true h = let z : ◌≡◌ {A = ℕ} 0 1 = cc in absurd (omega arith)
    go false h = h

module _ (strict : Bool) (forms : List ℕ) (values : List Float) (counts s : List ℕ) (r : Readings) (e : read_in strict forms values counts s ≡ accepted r) where
  taken : read_record strict s ≡ accepted r
  taken = with_room_lem meanings counts _ (with_room_lem meanings values _ (with_room_lem meanings forms _ e))

  are_its : readings s ≡ r
  are_its = ((exactly (readings s) (read_rows strict s)).accepted_because taken).1

  -- what was read is written as the record of its readings
  pub written_of-read : written_of forms values counts r ≡ accepted (record_of (readings s))
  written_of-read =
      written_back r (ap (λ (q : Readings). length q.slots) (sym are_its) ∙ all_slots s) forms values counts
      ∙ ap (λ (q : Readings). accepted (record_of q)) (sym are_its)

-- and as the same bytes, by the strict reader
pub same_bytes : (forms : List ℕ) (values : List Float) (counts s : List ℕ) (r : Readings) → AreBytes s → NoneIsNan r
    → read_in true forms values counts s ≡ accepted r
    → written_of forms values counts r ≡ accepted s
same_bytes forms values counts s r all numbers e =
    written_of-read true forms values counts s r e ∙ ap (λ (q : Readings). accepted (record_of q)) (are_its true forms values counts s r e)
    ∙ ap accepted (sym (written-again s r all (λ m v told. not_nan v (λ x is. numbers m x (told ∙ ap Some is))) (taken true forms values counts s r e)))
  where
    not_nan : (v : Value) → ((x : Float) → v ≡ Double x → is_nan x ≡ false) → NotNan v
    not_nan (Double x) number = number x refl
    not_nan (Count word) number = tt

-- ---- arrays that were written
form-back : (form : ℕ) (x : Float) (word : ℕ) → form ≤ 2 → form_of (stored_as form x word) ≡ form
form-back form x word most = go (eqb form 1) (eqb form 2) refl refl
  where
    go : (a b : Bool) → eqb form 1 ≡ a → eqb form 2 ≡ b → form_of (cond a (Some (Double x)) (cond b (Some (Count word)) None)) ≡ form
    go true b e g = sym (eqb-true form 1 e)
    go false true e g = sym (eqb-true form 2 g)
    go false false e g = omega (arith, most, eqb-false form 1 e, eqb-false form 2 g)

is_held : (form : ℕ) (x : Float) (word : ℕ) → T (fits binary64 x) → word < 4294967296 → (u : Value) → stored_as form x word ≡ Some u → IsHeld u
is_held form x word double small u = go (eqb form 1) (eqb form 2)
  where
    go : (a b : Bool) → cond a (Some (Double x)) (cond b (Some (Count word)) None) ≡ Some u → IsHeld u
    go true b e = let same : Double x ≡ u = cc in subst IsHeld same double
    go false true e = let same : Count word ≡ u = cc in subst IsHeld same small
    go false false e = let z : ◌≡◌ {A = ℕ} 0 1 = cc in absurd (omega arith)

module _ (forms : List ℕ) (values : List Float) (counts s : List ℕ) (are : AreNumbers values counts) (e : array_record forms values counts ≡ accepted s) where
  abbrev r : Readings
  r = array_readings meanings forms values counts

  written : NoneHolds (row (not (are_forms meanings forms)) 254 [] ∷ []) × (accepted (record_of r) ≡ accepted s)
  written =
      then-accepted (row (not (are_forms meanings forms)) 254 [] ∷ [])
      (with_room_lem meanings counts _ (with_room_lem meanings values _ (with_room_lem meanings forms _ e)))

  are_held : AreHeld r
  are_held = record {
    all = array_length forms values counts meanings;
    values = λ m u told.
        let less : m < meanings = omega (arith, is-meant r m told, array_length forms values counts meanings) in
        is_held (get_or forms m 0) (get_or values m nan) (get_or counts m 0) (are.doubles m) (are.words m) u
        (sym (stored_at forms values counts meanings m (omega arith) less) ∙ told);
  }

  strictly : read_record true s ≡ accepted r
  strictly = let written_as = written.1 in let same : record_of r ≡ s = cc in ap (read_record true) (sym same) ∙ read_back r are_held

  -- each reader reads the readings that were written
  pub read_of-written : (strict : Bool) → read_record strict s ≡ accepted r
  read_of-written true = strictly
  read_of-written false =
      ⊎_elim (λ same. sym same ∙ strictly) (λ falls. let read = strictly in let z : ◌≡◌ {A = ℕ} 0 1 = cc in absurd (omega arith)) (same_or_falling s)

  stored : (m : ℕ) → m < meanings → stored_of r m ≡ stored_as (get_or forms m 0) (get_or values m nan) (get_or counts m 0)
  stored m h = stored_at forms values counts meanings m (omega arith) h

  -- so it answers their forms, values and counts
  pub read_as : ReadAs forms values counts r
  read_as = record {
    form = λ m h.
        each_at r form_of meanings m 0 h ∙ ap form_of (stored m h)
        ∙ form-back (get_or forms m 0) (get_or values m nan) (get_or counts m 0) (forms_known meanings forms (not-false _ written.0.0) m h);
    value = λ m h one. each_at r double_for meanings m nan h ∙ ap double_for (stored m h ∙ ap (λ (k : ℕ). stored_as k (get_or values m nan) (get_or counts m 0)) one);
    count = λ m h two. each_at r count_for meanings m 0 h ∙ ap count_for (stored m h ∙ ap (λ (k : ℕ). stored_as k (get_or values m nan) (get_or counts m 0)) two);
  }
