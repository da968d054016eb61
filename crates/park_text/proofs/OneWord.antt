-- What a word says and what is read of it: a name, `=`, a number and a unit are read as the reading of the number's count, and nothing else is.
-- Assumes nothing.
use Rattle.arithmetic.proofs.Kit.{◌≡◌, refl, sym, ap, ap₂, ◌∙◌, Bool, true, false, cond, List, [], ◌∷◌, ◌++◌, ℕ, zero, suc, ◌+◌, ◌<◌, add-one, arith, ltb-true, eqb-true, ltb, eqb, ℤ, Float, length, get_or, take, drop, take-append-drop, length-take-le}
use lib.Seq.{split_at, take-append_seam, drop-append-add, drop_at}
use Rattle.arithmetic.specs.Ascii.{ascii}
use Rattle.pages.specs.Scan.{index_of, index_after}
use Rattle.pages.specs.Characters.{same}
use Rattle.pages.proofs.Same.{is_same}
use Rattle.std.specs.Prelude.{Option, Some, None, Result, Ok, Err}
use Rattle.decimals.specs.declared.typed.NotACount.{NotACount}
use Rattle.decimals.specs.declared.typed.NotACount.TheVariants as not_a_count
use Rattle.decimals.specs.Typed.{typed}
use Rattle.fields.specs.Fields.{meanings}
use Rattle.questions.specs.Words.{place_in}
use Rattle.park_text.specs.declared.typed_word.Problem.{Problem}
use Rattle.park_text.specs.declared.typed_word.Problem.TheVariants.{RecordBeside, NameAlone, Blank, Comma, MinusSign}
use Rattle.park_text.specs.declared.typed_word.TypedReading.{TypedReading}
use Rattle.park_text.specs.declared.units.Unit.{Unit}
use Rattle.park_text.specs.Units.{unit_named, places_of, reading_in}
use Rattle.park_text.specs.Word.{reading_names, meaning_named, number_length, three_decimals, value_for, in_unit, read_number, has, is_minus_sign, read_value, name_in, value_in, named, alone, read_named, is_record, read_word, Says}
use Rattle.park_text.proofs.Numbers.{number_within}

-- ---- what is looked for stands where it is found
index_found : (d : ℕ) (s : List ℕ) → index_of d s < length s → get_or s (index_of d s) 0 ≡ d
unfolding index_of index_after
index_found d [] h = absurd (omega arith)
index_found d (b ∷ s) h = go (eqb b d) refl h (index_found d s)
  where
    go : (t : Bool) → eqb b d ≡ t → index_after t (index_of d s) < suc (length s) → (index_of d s < length s → get_or s (index_of d s) 0 ≡ d)
        → get_or (b ∷ s) (index_after t (index_of d s)) 0 ≡ d
    go true e h rest = eqb-true b d e
    go false e h rest = rest (omega arith)

place_found : (ns : List (List ℕ)) (w : List ℕ) → place_in ns w < length ns → get_or ns (place_in ns w) [] ≡ w
place_found [] w h = absurd (omega arith)
place_found (n ∷ ns) w h = go (same w n) refl h (place_found ns w)
  where
    go : (t : Bool) → same w n ≡ t → cond t 0 (suc (place_in ns w)) < suc (length ns) → (place_in ns w < length ns → get_or ns (place_in ns w) [] ≡ w)
        → get_or (n ∷ ns) (cond t 0 (suc (place_in ns w))) [] ≡ w
    go true e h rest = sym (is_same w n e)
    go false e h rest = rest (omega arith)

-- ---- a word that says a number: its name has no `=`, and is found at its own place
index_append : (n d : List ℕ) → index_of 61 n ≡ length n → index_of 61 (n ++ 61 ∷ d) ≡ length n
unfolding index_of index_after
index_append [] d h = refl
index_append (b ∷ n) d h = go (eqb b 61) h (index_append n d)
  where
    go : (t : Bool) → index_after t (index_of 61 n) ≡ suc (length n) → (index_of 61 n ≡ length n → index_of 61 (n ++ 61 ∷ d) ≡ length n)
        → index_after t (index_of 61 (n ++ 61 ∷ d)) ≡ suc (length n)
    go true h rest = absurd (omega arith)
    go false h rest = ap suc (rest (omega arith))

own-place : (m : ℕ) → m < meanings → (index_of 61 (get_or reading_names m []) ≡ length (get_or reading_names m [])) × (meaning_named (get_or reading_names m []) ≡ Some m)
unfolding index_of index_after meaning_named
own-place zero h = (refl, refl)
own-place (suc zero) h = (refl, refl)
own-place (suc (suc zero)) h = (refl, refl)
own-place (suc (suc (suc zero))) h = (refl, refl)
own-place (suc (suc (suc (suc zero)))) h = (refl, refl)
own-place (suc (suc (suc (suc (suc zero))))) h = (refl, refl)
own-place (suc (suc (suc (suc (suc (suc zero)))))) h = (refl, refl)
own-place (suc (suc (suc (suc (suc (suc (suc m))))))) h = absurd (omega arith)

-- so that there is one way to read it
pub record Parted (w : List ℕ) (m : ℕ) (u : Unit) (d : List ℕ) : Type 0 where
  pub meaning : meaning_named (name_in w) ≡ Some m
  pub number : take (number_length (value_in w)) (value_in w) ≡ d
  pub unit : unit_named m (drop (number_length (value_in w)) (value_in w)) ≡ Some u

pub parted : (w : List ℕ) (m : ℕ) (u : Unit) (d : List ℕ) → Says w m u d → Parted w m u d
parted w m u d says =
    let n : List ℕ = get_or reading_names m [] in
    let v : List ℕ = d ++ says.unit in
    let at : index_of 61 w ≡ length n = ap (index_of 61) says.whole ∙ index_append n v (own-place m says.known).0 in
    let value : value_in w ≡ v =
    ap₂ (λ (k : ℕ) (l : List ℕ). drop (k + 1) l) at says.whole ∙ drop-append-add n (61 ∷ v) 1 in
    let ends : number_length (value_in w) ≡ length d = ap number_length value ∙ says.number in
    record {
      meaning = ap₂ (λ (k : ℕ) (l : List ℕ). meaning_named (take k l)) at says.whole ∙ ap meaning_named (take-append_seam n (61 ∷ v)) ∙ (own-place m says.known).1;
      number = ap₂ (λ (k : ℕ) (l : List ℕ). take k l) ends value ∙ take-append_seam d says.unit;
      unit = ap (unit_named m) (ap₂ (λ (k : ℕ) (l : List ℕ). drop k l) ends value ∙ drop_at d says.unit (length d) refl) ∙ says.named_by;
    }

-- ---- a word that gives a reading
pub record Spoken (w : List ℕ) (m : ℕ) (x : Float) : Type 0 where
  pub unit : Unit
  pub decimal : List ℕ
  pub says : Says w m unit decimal
  pub count : ℤ
  pub read : typed (places_of unit) decimal ≡ Ok count
  pub reading : x ≡ reading_in unit count

-- the reading of a number d with w behind it
record Valued (m : ℕ) (d w : List ℕ) (t : TypedReading) : Type 0 where
  unit : Unit
  named_by : unit_named m w ≡ Some unit
  count : ℤ
  read : typed (places_of unit) d ≡ Ok count
  meant : t.meaning ≡ m
  reading : t.reading ≡ reading_in unit count

meaning_is : {t u : TypedReading} → ◌≡◌ {A = Result TypedReading Problem} (Ok u) (Ok t) → u ≡ t
meaning_is e = cc

module _ (m : ℕ) (d w : List ℕ) {t : TypedReading} where
  in_unit_lem : (u : Unit) (o : Result ℤ NotACount) → unit_named m w ≡ Some u → typed (places_of u) d ≡ o
      → value_for m u (ltb 0 (length w)) (three_decimals d) o ≡ Ok t → Valued m d w t
  in_unit_lem u (Ok n) is e h = record {
    unit = u;
    named_by = is;
    count = n;
    read = e;
    meant = sym (ap (λ (v : TypedReading). v.meaning) (meaning_is h));
    reading = sym (ap (λ (v : TypedReading). v.reading) (meaning_is h));
  }
  in_unit_lem u (Err not_a_count.NotANumber) is e h = absurd cc
  in_unit_lem u (Err not_a_count.TooManyDecimals) is e h = absurd cc
  in_unit_lem u (Err not_a_count.OutOfRange) is e h = absurd cc

  valued : read_number m d w ≡ Ok t → Valued m d w t
  unfolding read_number
  valued h = go (unit_named m w) refl h
    where
      go : (o : Option Unit) → unit_named m w ≡ o → in_unit m d w o ≡ Ok t → Valued m d w t
      go (Some u) is e = in_unit_lem u (typed (places_of u) d) is refl e
      go None is e = absurd cc

-- behind the tests that come before the number's
past_test : {t : TypedReading} (b : Bool) (p : Problem) {v : Result TypedReading Problem} → cond b (Err p) v ≡ Ok t → v ≡ Ok t
past_test true p h = absurd cc
past_test false p h = h

-- a name that has a meaning is the name at its place
known : (n : List ℕ) {m : ℕ} → meaning_named n ≡ Some m → (m < meanings) × (n ≡ get_or reading_names m [])
unfolding meaning_named
known n {m} h = go (ltb (place_in reading_names n) meanings) refl h
  where
    go : (b : Bool) → ltb (place_in reading_names n) meanings ≡ b → cond b (Some (place_in reading_names n)) None ≡ Some m → (m < meanings) × (n ≡ get_or reading_names m [])
    go true is e =
        let here : place_in reading_names n ≡ m = cc in
        let within : place_in reading_names n < meanings = ltb-true (place_in reading_names n) meanings is in
        (omega (arith, within, here), sym (place_found reading_names n within) ∙ ap (λ (j : ℕ). get_or reading_names j []) here)
    go false is e = absurd cc

spoken-named : (w : List ℕ) {t : TypedReading} → read_named w ≡ Ok t → Spoken w t.meaning t.reading
unfolding read_named read_value
spoken-named w {t} is = go (has 61 w) refl is
  where
    v : List ℕ
    v = value_in w

    n : ℕ
    n = number_length v

    with_name : index_of 61 w < length w → (o : Option ℕ) → meaning_named (name_in w) ≡ o → named o v ≡ Ok t → Spoken w t.meaning t.reading
    with_name within None name e = absurd cc
    with_name within (Some k) name e =
        let number = past_test (is_minus_sign v) MinusSign (past_test (has 44 v) Comma (past_test (has 32 v) Blank e)) in
        let value = valued k (take n v) (drop n v) number in
        let meant = known (name_in w) name in
        record {
          unit = value.unit;
          decimal = take n v;
          says = record {
            unit = drop n v;
            known = omega (arith, meant.0, value.meant);
            whole = split_at w (index_of 61 w) 0 within
                ∙ ap₂ (λ (b : ℕ) (j : ℕ). name_in w ++ b ∷ drop j w) (index_found 61 w within) (sym (add-one (index_of 61 w)))
                ∙ ap (λ (l : List ℕ). l ++ 61 ∷ v) (meant.1 ∙ ap (λ (j : ℕ). get_or reading_names j []) (sym value.meant))
                ∙ ap (λ (l : List ℕ). get_or reading_names t.meaning [] ++ 61 ∷ l) (sym (take-append-drop n v));
            number = ap number_length (take-append-drop n v) ∙ sym (length-take-le n v (number_within v));
            named_by = ap (λ (j : ℕ). unit_named j (drop n v)) value.meant ∙ value.named_by;
          };
          count = value.count;
          read = value.read;
          reading = value.reading;
        }

    go : (b : Bool) → has 61 w ≡ b → cond b (named (meaning_named (name_in w)) v) (Err (alone (meaning_named w))) ≡ Ok t → Spoken w t.meaning t.reading
    go true h e = with_name (ltb-true (index_of 61 w) (length w) h) (meaning_named (name_in w)) refl e
    go false h e = absurd cc

pub spoken : (w : List ℕ) {t : TypedReading} → read_word w ≡ Ok t → Spoken w t.meaning t.reading
unfolding read_word
spoken w is = spoken-named w (past_test (same w (ascii "record")) (NameAlone meanings) (past_test (is_record w) RecordBeside is))
