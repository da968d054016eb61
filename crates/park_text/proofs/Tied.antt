-- What is typed and what is judged are tied, by what the words leave in the readings and by the laws of the writer. Assumes nothing.
use Rattle.std.specs.Prelude.{None, Option, Some, Ok}
use Rattle.arithmetic.proofs.Kit.{◌≡◌, refl, sym, ap, ap₂, subst, ◌∙◌, true, false, List, List-as-Memᴰ, ◌⊎◌, inl, inr, ℕ, arith, T, Float, binary64, fits, drop}
use Rattle.refusal.specs.Outcomes.{Outcome, accepted, ◌⟫◌}
use Rattle.decimals.specs.Typed.{typed}
use Rattle.fields.specs.declared.fields.Value.{Value}
use Rattle.record.specs.declared.entries.Readings.{Readings}
use Rattle.record.specs.Readings.{read_record}
use Rattle.record.specs.Entries.{no_readings, entry_for, entry_of, stored_of}
use Rattle.record.proofs.Strict.{same_where_rising, accepted-rising}
use Rattle.writer.specs.Records.{record_of}
use Rattle.writer.specs.Laws.{IsHeld}
use Rattle.writer.proofs.Passed.{no_stored}
use Rattle.writer.proofs.ReadBack.{read_back}
use Rattle.mast.specs.Judge.{judged, judge}
use Rattle.park_text.specs.Understood.{understand}
use Rattle.park_text.specs.declared.units.Unit.{Unit}
use Rattle.park_text.specs.Units.{unit_named, places_of, reading_in}
use Rattle.park_text.specs.Word.{number_length, value_in, Says}
use Rattle.park_text.specs.Laws.{Nearest, Typed}
use Rattle.park_text.proofs.Stated.{Said, TypedIsJudged}
use Rattle.park_text.proofs.Kept.{reading-fits, kept}
use Rattle.park_text.proofs.OneWord.{parted, spoken}
use Rattle.park_text.proofs.Noted.{Source, From, from-words}

module _ (ws : List (List ℕ)) (r : Readings) (e : understand ws ≡ Ok r) where
  from : From ws no_readings r
  from = from-words ws 0 no_readings r refl e

  every_word_lem : (w : List ℕ) → List-as-Memᴰ w ws → Said w
  every_word_lem w there =
      let n = from.each w there in
      let s = spoken w n.is in
      record { meaning = n.typed.meaning; unit = s.unit; decimal = s.decimal; says = s.says }

  -- there is one way to read a word, and its reading is kept
  is_reading_lem : (w : List ℕ) (m : ℕ) (u : Unit) (d : List ℕ) → List-as-Memᴰ w ws → Says w m u d → Nearest r m u d
  is_reading_lem w m u d there says =
      let n = from.each w there in
      let s = spoken w n.is in
      let typed-so = parted w m u d says in
      let read-so = parted w n.typed.meaning s.unit s.decimal s.says in
      let named : Some m ≡ Some n.typed.meaning = sym typed-so.meaning ∙ read-so.meaning in
      let meant : m ≡ n.typed.meaning = cc in
      let number : d ≡ s.decimal = sym typed-so.number ∙ read-so.number in
      let units : Some u ≡ Some s.unit =
      sym typed-so.unit ∙ ap (λ (k : ℕ). unit_named k (drop (number_length (value_in w)) (value_in w))) meant ∙ read-so.unit in
      let unit : u ≡ s.unit = cc in
      let held-so = subst (λ (x : Float). T (fits binary64 x)) (sym s.reading) (reading-fits s.unit s.count) in
      record {
        count = s.count;
        read = ap₂ (λ (v : Unit) (l : List ℕ). typed (places_of v) l) unit number ∙ s.read;
        entry = ap (entry_of r) meant ∙ ap entry_for n.stored
            ∙ ap Some ((kept n.typed.reading held-so).0 ∙ s.reading ∙ ap (λ (v : Unit). reading_in v s.count) (sym unit));
      }

  -- nothing was stored before the words
  source : (m : ℕ) (v : Value) → stored_of r m ≡ Some v → Source ws m v
  source m v told = go (from.came m v told)
    where
      go : (stored_of no_readings m ≡ Some v) ⊎ Source ws m v → Source ws m v
      go (inl h) = let none = no_stored m in let z : ◌≡◌ {A = ℕ} 0 1 = cc in absurd (omega arith)
      go (inr s) = s

  was_typed_lem : (m : ℕ) (x : Float) → entry_of r m ≡ Some x → Typed ws m
  was_typed_lem m x = go (stored_of r m) refl
    where
      go : (o : (Option Value)) → stored_of r m ≡ o → entry_for o ≡ Some x → Typed ws m
      go None told h = let z : ◌≡◌ {A = ℕ} 0 1 = cc in absurd (omega arith)
      go (Some v) told h =
          let s = source m v told in
          let w = spoken s.word s.is in
          record { word = s.word; unit = w.unit; decimal = w.decimal; there = s.there; says = subst (λ (k : ℕ). Says s.word k w.unit w.decimal) s.meant w.says }

  held : (m : ℕ) (v : Value) → stored_of r m ≡ Some v → IsHeld v
  held m v told =
      let s = source m v told in
      let w = spoken s.word s.is in
      let held-so = subst (λ (x : Float). T (fits binary64 x)) (sym w.reading) (reading-fits w.unit w.count) in
      subst IsHeld (sym s.value) (kept s.typed.reading held-so).1

  read_strictly_lem : read_record true (record_of r) ≡ accepted r
  read_strictly_lem = read_back r record { all = from.all; values = held }

  in_any_order : read_record false (record_of r) ≡ accepted r
  in_any_order = sym (same_where_rising (record_of r) (accepted-rising (record_of r) read_strictly_lem)) ∙ read_strictly_lem

  is_judged_lem : judge (record_of r) ≡ judged r
  unfolding judge
  is_judged_lem = ap (λ (o : Outcome Readings). o ⟫ judged) in_any_order

pub typed-is_judged : TypedIsJudged
typed-is_judged ws r e = record {
  every_word = every_word_lem ws r e;
  is_reading = is_reading_lem ws r e;
  was_typed = was_typed_lem ws r e;
  read_strictly = read_strictly_lem ws r e;
  read_in_any_order = in_any_order ws r e;
  is_judged = is_judged_lem ws r e;
}
