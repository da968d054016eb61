-- A field depends only on its own bytes: one that is whole is the same whatever follows it. Assumes nothing.
use Rattle.record.proofs.Kit.{◌≡◌, refl, sym, ap, ap₂, ◌∙◌, Bool, true, false, not, cond, List, [], ◌∷◌, ◌++◌, ℕ, zero, suc, ◌+◌, ◌*◌, ◌≤◌, arith, le-ltb, ltb, eqb, binary64, of_bits, length, drop, length-append, List·getD-append, drop-append-le, Outcome, Row, row, ◌then◌, Readings, is_count_tag, is_tag, meaning_of, data_size, tag_of, length_of, size_of, value_of, field, head_rows, order_rows, noted, size-by}
use Rattle.fields.specs.declared.fields.Field.{Field}
use Rattle.fields.specs.declared.fields.Value.TheVariants.{Double, Count}
use Rattle.fields.specs.Bytes.{number_at, double_at}
use Rattle.record.proofs.Walk.{field_rows, read, read_step}

-- the rows of a field's header
abbrev pub header_rows : List ℕ → List Row
header_rows s = row (ltb (length s) 3) 5 [] ∷ row (not (is_tag (tag_of s))) 6 [] ∷ row (not (eqb (length_of s) (data_size (tag_of s)))) 7 [] ∷ []

module _ (s t : List ℕ) where
  word : (i n : ℕ) → i + n ≤ length s → number_at (s ++ t) i n ≡ number_at s i n
  unfolding number_at
  word i zero h = refl
  word i (suc n) h = ap₂ (λ (w b : ℕ). w * 256 + b) (word i n (omega arith)) (List·getD-append s t 0 (i + n) (omega arith))

  long : (n : ℕ) → n ≤ length s → ltb (length (s ++ t)) n ≡ ltb (length s) n
  long n h = le-ltb (length (s ++ t)) n (omega (arith, length-append s t)) ∙ sym (le-ltb (length s) n h)

  tag : 3 ≤ length s → tag_of (s ++ t) ≡ tag_of s
  tag h = List·getD-append s t 0 0 (omega arith)

  pub same-header : 3 ≤ length s → header_rows (s ++ t) ≡ header_rows s
  same-header h = λ i. row (long 3 h i) 5 [] ∷ row (not (is_tag (tag h i))) 6 [] ∷ row (not (eqb (word 1 2 h i) (data_size (tag h i)))) 7 [] ∷ []

  module _ (whole : size_of s ≤ length s) where
    header : 3 ≤ length s
    header = omega arith

    pub same_rows : head_rows (s ++ t) ≡ head_rows s
    unfolding head_rows
    same_rows =
        let cut = ap (λ (n : ℕ). ltb (length (s ++ t)) (3 + data_size n)) (tag header) ∙ long (size_of s) whole in
        λ i. same-header header i ++ row (cut i) 5 [] ∷ []

    by_form : (b : Bool) → is_count_tag (tag_of s) ≡ b → cond b (Count (number_at (s ++ t) 3 4)) (Double (double_at (s ++ t) 3)) ≡ cond b (Count (number_at s 3 4)) (Double (double_at s 3))
    by_form true e = ap (λ (w : ℕ). Count w) (word 3 4 (omega (arith, size-by (tag_of s) _ e)))
    by_form false e = ap (λ (w : ℕ). Double (of_bits binary64 w)) (word 3 8 (omega (arith, size-by (tag_of s) _ e)))

    same-value : value_of (s ++ t) ≡ value_of s
    same-value = ap (λ (n : ℕ). cond (is_count_tag n) (Count (number_at (s ++ t) 3 4)) (Double (double_at (s ++ t) 3))) (tag header) ∙ by_form (is_count_tag (tag_of s)) refl

    pub same-field : field (s ++ t) ≡ field s
    unfolding field
    same-field = λ i. record { tag = tag header i; meaning = meaning_of (tag header i); value = same-value i }

    -- the rows of the field, and the reading of what follows it
    pub read_whole : (strict : Bool) (r : Readings) (last : ℕ)
        → read strict r last (s ++ t) ≡ (field_rows strict r last s then read strict (noted r (field s)) (tag_of s) (drop (size_of s) s ++ t))
    read_whole strict r last =
        read_step strict r last (s ++ t) (omega (arith, length-append s t))
        ∙ ap₂ (λ (rows : List Row) (n : ℕ). parts rows (field (s ++ t)) n (drop (3 + data_size n) (s ++ t))) same_rows (tag header)
        ∙ ap₂ (λ (f : Field) (u : List ℕ). parts (head_rows s) f (tag_of s) u) same-field (drop-append-le (size_of s) s t whole)
      where
        parts : List Row → Field → ℕ → List ℕ → Outcome Readings
        parts rows f n u = (rows ++ order_rows strict r last f) then read strict (noted r f) n u
