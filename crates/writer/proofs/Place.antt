-- A place in a record of whole fields: a reader's step finds the field there, and the place after it. Assumes nothing.
use Rattle.writer.proofs.Kit.{◌≡◌, sym, ap, ap₂, subst, ◌∙◌, Bool, cond, List, [], ◌∷◌, ◌++◌, ℕ, ◌+◌, ◌-◌, ◌≤◌, ◌<◌, arith, Float, length, take, drop, length-append, length-drop, length-take-le, Outcome, ◌then◌, accepted, refused, then-none, Field, meaning_of, tag_of, size_of, field, head_rows, step_at, step-found, step-refused, next-is, further, after_is, head-whole, Turned, turned, turned_of, has_no_count, size_as, field_in, fields_in, count_rows, record_in, fields_of}
use Rattle.refusal.specs.Causes.{NoneHolds}
use Rattle.writer.proofs.Split.{split_step, first_field, Whole, head_of, length_as}

pub record Place (s : List ℕ) (at : ℕ) : Type 0 where
  pub whole : Whole (drop at s)
  pub inside : at < length s

module _ {s : List ℕ} {at : ℕ} (p : Place s at) where
  some : 0 < length (drop at s)
  some = omega (arith, length-drop at s)

  head : NoneHolds (head_rows (drop at s)) × Whole (drop (size_of (drop at s)) (drop at s))
  head = head_of (drop at s) some p.whole

  pub never-refused : {n : ℕ} {vs : List Float} → step_at s at ≡ refused n vs → ⊥
  never-refused e =
      let here = then-none {o = accepted (field (drop at s))} (head_rows (drop at s)) head.0 in
      let none = step-refused s at e in
      let z : ◌≡◌ {A = ℕ} 0 1 = cc in
      omega arith

-- ---- a place where a step found a field
pub record Here (s : List ℕ) (at : ℕ) : Type 0 where
  pub place : Place s at
  pub read : Field
  pub next : ℕ
  pub found : step_at s at ≡ accepted (read, next)

module _ {s : List ℕ} {at : ℕ} (h : Here s at) where
  abbrev left : List ℕ
  left = drop at s

  abbrev pub here : List ℕ
  here = take (h.next - at) left

  fits : size_of left ≤ length left
  fits = head-whole left (head h.place).0

  pub on : (at < h.next) × (h.next ≤ length s)
  on = further s at h.next (step-found s at h.found).1 fits

  size : h.next - at ≡ size_of left
  size = omega (arith, next-is s at h.next (step-found s at h.found).1 fits)

  here-is : here ≡ take (size_of left) left
  here-is = ap (λ (n : ℕ). take n left) size

  after : drop (size_of left) left ≡ drop h.next s
  after = after_is s at h.next (step-found s at h.found).1 fits

  pub whole-after : Whole (drop h.next s)
  whole-after = subst Whole after (head h.place).1

  pub length-here : length here ≡ h.next - at
  length-here = length-take-le (h.next - at) left (omega (arith, size, fits))

  read-here : field here ≡ h.read
  unfolding field
  read-here =
      let read = sym (then-none (head_rows left) (head h.place).0) ∙ (step-found s at h.found).0 in
      let same : field left ≡ h.read = cc in
      ap field here-is ∙ first_field left fits ∙ same

  pub meaning-here : h.read.meaning ≡ meaning_of (tag_of here)
  unfolding field
  meaning-here = sym (ap (λ (g : Field). g.meaning) read-here)

  pub turned-here : (counts : Bool) → turned counts h.read.value ≡ turned_of counts here
  unfolding field
  turned-here counts = sym (ap (λ (g : Field). turned counts g.value) read-here)

  pub split-here : fields_of left ≡ here ∷ fields_of (drop h.next s)
  split-here = split_step left (some h.place) ∙ ap₂ (λ (f u : List ℕ). f ∷ fields_of u) (sym here-is) after

-- ---- the lengths and the checks of the fields from a place on
abbrev pub with_left : Bool → List ℕ → List (List ℕ) → Outcome ℕ
with_left counts s fs = count_rows counts fs then accepted (length (record_in counts s))

module _ {s : List ℕ} {at : ℕ} (h : Here s at) (counts : Bool) where
  pub by_field : {b : Bool} → has_no_count (turned_of counts (here h)) ≡ b
      → with_left counts s (fields_of (drop at s)) ≡ cond b (refused 20 []) (with_left counts s (fields_of (drop h.next s)))
  by_field has =
      ap (with_left counts s) (split-here h)
      ∙ ap (λ (b : Bool). cond b (refused 20 []) (with_left counts s (fields_of (drop h.next s)))) has

  pub record-here : record_in counts (drop at s) ≡ field_in counts (here h) ++ record_in counts (drop h.next s)
  record-here = ap (fields_in counts) (split-here h)

  pub size-here : {t : Turned} → t ≡ turned_of counts (here h)
      → size_as (h.next - at) h.read.meaning t + length (record_in counts (drop h.next s)) ≡ length (record_in counts (drop at s))
  size-here {t} is =
      let n = ap₂ (λ (n m : ℕ). size_as n m t) (sym (length-here h)) (meaning-here h) ∙ ap (size_as (length (here h)) (meaning_of (tag_of (here h)))) is ∙ sym (length_as (here h) (turned_of counts (here h))) in
      ap (λ (k : ℕ). k + length (record_in counts (drop h.next s))) n
      ∙ sym (length-append (field_in counts (here h)) (record_in counts (drop h.next s)))
      ∙ ap length (sym record-here)
