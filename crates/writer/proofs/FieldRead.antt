-- A field that is written, as the readers see it: no row of a field refuses it, and its value is the one that was written. Assumes nothing.
use Rattle.writer.proofs.Kit.{◌≡◌, sym, ap, ap₂, ◌∙◌, Bool, true, false, not, ◌&&◌, cond, List, [], ◌++◌, append-nil, append_assoc, ℕ, ◌+◌, ◌%◌, ◌^◌, ◌<◌, mod-eq_of_lt, arith, le-ltb, eq-eqb, not-true, ltb, binary64, of_bits, of_bits-to_bits, length, length-append, drop_of_length-le, NoneHolds, then-none, none_both, Value, Double, Count, Readings, number_at, double_at, is_count_tag, is_tag, meaning_of, is_count, data_size, tag_of, length_of, size_of, value_of, field, head_rows, order_rows, noted, with_value, entry_of, is_some, size-by, at_most_lem, field_rows, read, bytes, data_of, field_with, has_form, IsHeld}
use lib.Ieee.Bits.{to_bits-lt}
use Rattle.record.proofs.Followed.{read_whole}
use Rattle.writer.proofs.Bytes.{length-bytes}
use Rattle.writer.proofs.Fields.{length-field}
use Rattle.writer.proofs.Spelled.{spelled}

-- the form of a value is its tag's
pub one_form : (tag : ℕ) (v : Value) → has_form tag v ≡ true → is_count_tag tag ≡ is_count v
one_form tag (Double x) h = not-true (is_count_tag tag) h
one_form tag (Count word) h = h

-- a value, by the number that its data spells
data_held : (v : Value) → IsHeld v → data_of v < 256 ^ cond (is_count v) 4 8
data_held (Double x) held = to_bits-lt binary64 x held
data_held (Count word) held = held

of-form : (s : List ℕ) (v : Value) → is_count_tag (tag_of s) ≡ is_count v → number_at s 3 (cond (is_count v) 4 8) ≡ data_of v → IsHeld v → value_of s ≡ v
of-form s (Double x) form number held =
    ap (λ (b : Bool). cond b (Count (number_at s 3 4)) (Double (double_at s 3))) form
    ∙ ap (λ (w : ℕ). Double (of_bits binary64 w)) number
    ∙ ap Double (of_bits-to_bits binary64 x held)
of-form s (Count word) form number held = ap (λ (b : Bool). cond b (Count (number_at s 3 4)) (Double (double_at s 3))) form ∙ ap Count number

module _ (tag : ℕ) (v : Value) (known : is_tag tag ≡ true) (small : tag < 256) (form : has_form tag v ≡ true) where
  abbrev f : List ℕ
  f = field_with tag v

  pub tag_read : tag_of f ≡ tag
  unfolding field_with bytes
  tag_read = omega arith

  length-read : length_of f ≡ data_size tag
  unfolding field_with
  length-read =
      let a = bytes 1 tag in
      let b = bytes 2 (data_size tag) in
      let d = bytes (data_size tag) (data_of v) in
      ap₂ (λ (s : List ℕ) (i : ℕ). number_at s i 2) (append_assoc a b d) (sym (length-bytes 1 tag)) ∙ spelled a d 2 (data_size tag) ∙ mod-eq_of_lt (omega (arith, at_most_lem tag))

  pub size-read : size_of f ≡ length f
  size-read = ap (λ (t : ℕ). 3 + data_size t) tag_read ∙ sym (length-field tag v)

  data_read : number_at f 3 (data_size tag) ≡ data_of v % 256 ^ data_size tag
  unfolding field_with
  data_read =
      let n = data_size tag in
      let p = bytes 1 tag ++ bytes 2 n in
      let header : length p ≡ 3 = omega (arith, length-append (bytes 1 tag) (bytes 2 n), length-bytes 1 tag, length-bytes 2 n) in
      ap₂ (λ (d : List ℕ) (i : ℕ). number_at (p ++ d) i n) (sym (append-nil (bytes n (data_of v)))) (sym header) ∙ spelled p [] n (data_of v)

  pub value_read : IsHeld v → value_of f ≡ v
  value_read held =
      let counts = one_form tag v form in
      let size : data_size tag ≡ cond (is_count v) 4 8 = size-by tag (is_count v) counts in
      of-form f v (ap is_count_tag tag_read ∙ counts)
      (ap (number_at f 3) (sym size) ∙ data_read ∙ ap (λ (n : ℕ). data_of v % 256 ^ n) size ∙ mod-eq_of_lt (data_held v held)) held

  pub none-refuses : NoneHolds (head_rows f)
  unfolding head_rows
  none-refuses =
      let long = length-field tag v in (
        le-ltb (length f) 3 (omega (arith, long)),
        (
          ap (λ (t : ℕ). not (is_tag t)) tag_read ∙ ap not known,
          (ap not (eq-eqb (length_of f) (data_size (tag_of f)) (length-read ∙ ap data_size (sym tag_read))), (le-ltb (length f) (size_of f) (omega (arith, size-read)), tt)),
        ),
      )

  -- read after others
  module _ (held : IsHeld v) (strict : Bool) (q : Readings) (last : ℕ) (new : is_some (entry_of q (meaning_of tag)) ≡ false) (rises : (strict && ltb tag last) ≡ false) where
    all_none : NoneHolds (field_rows strict q last f)
    unfolding field
    all_none =
        none_both (head_rows f) (order_rows strict q last (field f)) none-refuses
        (ap (λ (t : ℕ). is_some (entry_of q (meaning_of t))) tag_read ∙ new, (ap (λ (t : ℕ). strict && ltb t last) tag_read ∙ rises, tt))

    noted-so : noted q (field f) ≡ with_value q (meaning_of tag) v
    unfolding field
    noted-so = ap₂ (λ (t : ℕ) (u : Value). with_value q (meaning_of t) u) tag_read (value_read held)

    pub read-field : (t : List ℕ) → read strict q last (f ++ t) ≡ read strict (with_value q (meaning_of tag) v) tag t
    read-field t =
        read_whole f t (omega (arith, size-read)) strict q last
        ∙ then-none (field_rows strict q last f) all_none
        ∙ ap (λ (u : List ℕ). read strict (noted q (field f)) (tag_of f) (u ++ t)) (drop_of_length-le f {i = size_of f} (omega (arith, size-read)))
        ∙ ap₂ (λ (r : Readings) (n : ℕ). read strict r n t) noted-so tag_read
