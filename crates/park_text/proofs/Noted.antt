-- What words that are understood leave in the readings: what was there stays, each word's reading is there, and nothing else. Assumes nothing.
use Rattle.std.specs.Prelude.{Option, Some, is_some, Result, Ok, Err}
use Rattle.arithmetic.proofs.Kit.{◌≡◌, refl, sym, ap, subst, ◌∙◌, Bool, true, false, cond, true≢false, List, [], ◌∷◌, List-as-Memᴰ, ◌⊎◌, inl, inr, ⊎_elim, ℕ, ◌+◌, ◌<◌, arith, eqb-true, eqb-false, eqb, Float, length, length-set}
use mathlib.Core.List.Memᴰ
use Rattle.fields.specs.declared.fields.Value.{Value}
use Rattle.record.specs.declared.entries.Readings.{Readings}
use Rattle.fields.specs.Fields.{meanings}
use Rattle.record.specs.Entries.{entry_for, entry_of, stored_of, with_value}
use Rattle.writer.proofs.Passed.{stored_same, stored_other}
use Rattle.park_text.specs.declared.typed_word.Problem.{Problem}
use Rattle.park_text.specs.declared.typed_word.Problem.TheVariants.{RepeatedWord}
use Rattle.park_text.specs.declared.typed_word.TypedReading.{TypedReading}
use Rattle.park_text.specs.declared.typed_readings.WrongWord.{WrongWord}
use Rattle.park_text.specs.Word.{read_word}
use Rattle.park_text.specs.Understood.{value_of, problem, ◌⟫◌, with_typed, understand_from}
use Rattle.park_text.proofs.OneWord.{spoken}

-- the word w gave a reading that q has
pub record Noted (w : List ℕ) (q : Readings) : Type 0 where
  pub typed : TypedReading
  pub is : read_word w ≡ Ok typed
  pub stored : stored_of q typed.meaning ≡ Some (value_of typed.reading)

-- the word that gave the value v of the meaning m
pub record Source (ws : List (List ℕ)) (m : ℕ) (v : Value) : Type 0 where
  pub word : List ℕ
  pub typed : TypedReading
  pub there : List-as-Memᴰ word ws
  pub is : read_word word ≡ Ok typed
  pub meant : typed.meaning ≡ m
  pub value : v ≡ value_of typed.reading

-- the words ws make q of r
pub record From (ws : List (List ℕ)) (r q : Readings) : Type 0 where
  pub all : length q.slots ≡ meanings
  pub stays : (m : ℕ) (v : Value) → stored_of r m ≡ Some v → stored_of q m ≡ Some v
  pub each : (w : List ℕ) → List-as-Memᴰ w ws → Noted w q
  pub came : (m : ℕ) (v : Value) → stored_of q m ≡ Some v → (stored_of r m ≡ Some v) ⊎ Source ws m v

-- ---- no word, and one more
no_words : (r q : Readings) → length r.slots ≡ meanings → ◌≡◌ {A = Result Readings WrongWord} (Ok r) (Ok q) → From [] r q
no_words r q all e =
    let same : r ≡ q = cc in
    subst (From [] r) same record { all = all; stays = λ m v h. h; each = λ w h. absurd (Memᴰ.not-nil h); came = λ m v h. inl h }

module _ (w : List ℕ) (ws : List (List ℕ)) (r q : Readings) (t : TypedReading) (is : read_word w ≡ Ok t) (new : is_some (entry_of r t.meaning) ≡ false)
    (all : length r.slots ≡ meanings) (rest : From ws (with_value r t.meaning (value_of t.reading)) q) where
  abbrev m : ℕ
  m = t.meaning

  abbrev x : Float
  x = t.reading

  meant : m < length r.slots
  meant = omega (arith, (spoken w is).says.known)

  -- the meaning of the word had no value
  others : (k : ℕ) (v : Value) → stored_of r k ≡ Some v → k ≡ m → ⊥
  others k v h same = true≢false (ap (λ (e : (Option Value)). is_some (entry_for e)) (sym h ∙ ap (stored_of r) same) ∙ new)

  here : stored_of q m ≡ Some (value_of x)
  here = rest.stays m (value_of x) (stored_same r m (value_of x) meant)

  from-there : (k : ℕ) (v : Value) → (stored_of (with_value r m (value_of x)) k ≡ Some v) ⊎ Source ws k v → (stored_of r k ≡ Some v) ⊎ Source (w ∷ ws) k v
  from-there k v (inr s) = inr record { word = s.word; typed = s.typed; there = Memᴰ.tail s.there; is = s.is; meant = s.meant; value = s.value }
  from-there k v (inl h) = go (eqb k m) refl
    where
      go : (b : Bool) → eqb k m ≡ b → (stored_of r k ≡ Some v) ⊎ Source (w ∷ ws) k v
      go true e =
          let same : k ≡ m = eqb-true k m e in
          let told : Some (value_of x) ≡ Some v = sym (stored_same r m (value_of x) meant) ∙ ap (stored_of (with_value r m (value_of x))) (sym same) ∙ h in
          inr record { word = w; typed = t; there = Memᴰ.head refl; is = is; meant = sym same; value = cc }
      go false e = inl (sym (stored_other r m (value_of x) k (eqb-false k m e)) ∙ h)

  pub one_more : From (w ∷ ws) r q
  one_more = record {
    all = rest.all;
    stays = λ k v h. rest.stays k v (stored_other r m (value_of x) k (others k v h) ∙ h);
    each = λ u h. ⊎_elim (λ e. record { typed = t; is = ap read_word e ∙ is; stored = here }) (λ h. rest.each u h) (Memᴰ.cases_cons h);
    came = λ k v h. from-there k v (rest.came k v h);
  }

-- ---- all words
pub from-words : (ws : List (List ℕ)) (i : ℕ) (r q : Readings) → length r.slots ≡ meanings → understand_from i r ws ≡ Ok q → From ws r q
unfolding understand_from
from-words [] i r q all e = no_words r q all e
from-words (w ∷ ws) i r q all e = by_word (read_word w) refl e (λ p whole h. from-words ws (i + 1) p q whole h)
  where
    Rest : Type 0
    Rest = (p : Readings) → length p.slots ≡ meanings → understand_from (i + 1) p ws ≡ Ok q → From ws p q

    by_word : (o : Result TypedReading Problem) → read_word w ≡ o → (with_typed r i o ⟫ (λ p. understand_from (i + 1) p ws)) ≡ Ok q → Rest → From (w ∷ ws) r q
    by_word (Err p) is h next = absurd cc
    by_word (Ok t) is h next = by-entry (is_some (entry_of r t.meaning)) refl h
      where
        by-entry : (there : Bool) → is_some (entry_of r t.meaning) ≡ there
            → (cond there (problem RepeatedWord i) (Ok (with_value r t.meaning (value_of t.reading))) ⟫ (λ p. understand_from (i + 1) p ws)) ≡ Ok q → From (w ∷ ws) r q
        by-entry true new k = absurd cc
        by-entry false new k =
            one_more w ws r q t is new all (next (with_value r t.meaning (value_of t.reading)) (length-set r.slots t.meaning (Some (value_of t.reading)) ∙ all) k)
