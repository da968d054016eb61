-- A field in a form: the readers take it, with the same meaning and the same double; and out of the other form it comes back byte for byte. Assumes nothing.
use Rattle.writer.proofs.Kit.{◌≡◌, refl, sym, ap, ◌∙◌, Bool, true, false, not, cond, true≢false, List, ℕ, ◌<◌, arith, binary64, of_bits-fits, length, take_all, NoneHolds, Value, Double, Count, number_at, double_at, meanings, is_count_tag, is_tag, meaning_of, tag_in, is_count, double_of, tag_of, size_of, value_of, head_rows, tag-known, tag-meaning, field_with, field_for, has_form, AreBytes, IsHeld, Ok, Err, Some, None, Turned, turned, field_as, turned_of, field_in, has_no_count}
use Rattle.writer.proofs.Fields.{field-meant}
use Rattle.writer.proofs.Spelled.{word_lt}
use Rattle.writer.proofs.FieldRead.{tag_read, size-read, value_read, none-refuses}
use Rattle.writer.proofs.FieldWritten.{value-form, tag_is, same_bytes}
use Rattle.writer.proofs.Passed.{tag-at_most, tag_of-form}
use Rattle.writer.proofs.Values.{TurnedTo, turned-to, kept-form}

-- the value of bytes is one that the code holds
value-held : (f : List ℕ) → AreBytes f → IsHeld (value_of f)
value-held f all = go (is_count_tag (tag_of f))
  where
    go : (b : Bool) → IsHeld (cond b (Count (number_at f 3 4)) (Double (double_at f 3)))
    go true = word_lt f all 3 4
    go false = of_bits-fits binary64 (number_at f 3 8)

-- what the readers see of g is what they see of f
pub record SeenAs (f g : List ℕ) : Type 0 where
  pub one : length g ≡ size_of g
  pub none : NoneHolds (head_rows g)
  pub meaning : meaning_of (tag_of g) ≡ meaning_of (tag_of f)
  pub value : double_of (value_of g) ≡ double_of (value_of f)

module _ (counts : Bool) (f : List ℕ) (all : AreBytes f) (one : length f ≡ size_of f) (none : NoneHolds (head_rows f)) where
  abbrev m : ℕ
  m = meaning_of (tag_of f)

  meant : m < meanings
  meant = (tag_is f all none).meant

  -- with the other value
  module _ (w : Value) (e : turned_of counts f ≡ Ok (Some w)) where
    to : TurnedTo counts (value_of f) w
    to = turned-to counts (value_of f) (value-held f all) e

    abbrev tag : ℕ
    tag = tag_in (is_count w) m

    is_field : field_for m w ≡ field_with tag w
    is_field = field-meant m w meant

    is_tag_lem : is_tag tag ≡ true
    is_tag_lem = tag-known m meant (is_count w)

    small : tag < 256
    small = omega (arith, tag-at_most (is_count w) m meant)

    form : has_form tag w ≡ true
    form = tag_of-form m w meant

    its_meaning : meaning_of (tag_of (field_with tag w)) ≡ m
    its_meaning = ap meaning_of (tag_read tag w is_tag_lem small form) ∙ tag-meaning m meant (is_count w)

    its_value : value_of (field_with tag w) ≡ w
    its_value = value_read tag w is_tag_lem small form to.held

    other-seen : SeenAs f (field_for m w)
    other-seen =
        rw is_field
        record {
          one = sym (size-read tag w is_tag_lem small form);
          none = none-refuses tag w is_tag_lem small form;
          meaning = its_meaning;
          value = ap double_of its_value ∙ to.same;
        }

    -- and back
    comes_back : turned_of (not counts) (field_for m w) ≡ Ok (Some (value_of f))
    comes_back = ap (turned_of (not counts)) is_field ∙ ap (turned (not counts)) its_value ∙ to.back

    same-field : field_for m (value_of f) ≡ f
    same-field =
        field-meant m (value_of f) meant
        ∙ ap (λ (t : ℕ). field_with t (value_of f)) (ap (λ (b : Bool). tag_in b m) (value-form f) ∙ (tag_is f all none).same)
        ∙ same_bytes f all none to.number
        ∙ take_all (size_of f) f (omega arith)

  pub seen_as : has_no_count (turned_of counts f) ≡ false → SeenAs f (field_in counts f)
  seen_as has = go (turned_of counts f) refl has
    where
      go : (t : Turned) → turned_of counts f ≡ t → has_no_count t ≡ false → SeenAs f (field_as f t)
      go (Ok None) e has = record { one = one; none = none; meaning = refl; value = refl }
      go (Ok (Some w)) e has = other-seen w e
      go (Err c) e has = absurd (true≢false has)

  pub field_back : is_count_tag (tag_of f) ≡ not counts → has_no_count (turned_of counts f) ≡ false
      → (has_no_count (turned_of (not counts) (field_in counts f)) ≡ false) × (field_in (not counts) (field_in counts f) ≡ f)
  field_back other has = go (turned_of counts f) refl has
    where
      apart : (b : Bool) → is_count (value_of f) ≡ b → is_count (value_of f) ≡ not b → ⊥
      apart true e h = true≢false (sym e ∙ h)
      apart false e h = true≢false (sym h ∙ e)

      go : (t : Turned) → turned_of counts f ≡ t → has_no_count t ≡ false → (has_no_count (turned_of (not counts) (field_as f t)) ≡ false) × (field_in (not counts) (field_as f t) ≡ f)
      go (Ok None) e has = absurd (apart counts (kept-form counts (value_of f) e) (value-form f ∙ other))
      go (Ok (Some w)) e has =
          let back = comes_back w e in
          (ap has_no_count back, ap (field_as (field_for m w)) back ∙ ap (λ (k : ℕ). field_for k (value_of f)) (ap (λ (g : List ℕ). meaning_of (tag_of g)) (is_field w e) ∙ its_meaning w e) ∙ same-field w e)
      go (Err c) e has = absurd (true≢false has)
