-- The fields of a record one after the other: the first, and those of what follows it; and a reader's step from a position. Assumes nothing.
use Rattle.fields.proofs.Kit.{◌≡◌, refl, sym, ap, ◌∙◌, List, [], ◌∷◌, ℕ, zero, suc, ◌+◌, ◌≤◌, ◌<◌, arith, le-leb, Float, length, drop, length-drop, drop-drop, Outcome, accepted, refused, ◌⟫◌, size_of, field_of, heads_from, heads, next_at, step_at}
use Rattle.fields.specs.declared.fields.Field.{Field}

enough : (n m : ℕ) (s : List ℕ) → length s ≤ n → length s ≤ m → heads_from n s ≡ heads_from m s
unfolding heads_from
enough zero zero s h k = refl
enough zero (suc m) [] h k = refl
enough zero (suc m) (b ∷ t) h k = absurd (omega arith)
enough (suc n) zero [] h k = refl
enough (suc n) zero (b ∷ t) h k = absurd (omega arith)
enough (suc n) (suc m) [] h k = refl
enough (suc n) (suc m) (b ∷ t) h k =
    let s = b ∷ t in
    ap (λ (hs : List (List ℕ)). s ∷ hs) (enough n m (drop (size_of s) s) (omega (arith, length-drop (size_of s) s)) (omega (arith, length-drop (size_of s) s)))

pub heads-none : heads [] ≡ []
unfolding heads_from
heads-none = refl

pub heads-step : (s : List ℕ) → 0 < length s → heads s ≡ s ∷ heads (drop (size_of s) s)
unfolding heads_from
heads-step [] some = absurd (omega arith)
heads-step (b ∷ t) some =
    let s = b ∷ t in
    let rest = drop (size_of s) s in
    ap (λ (hs : List (List ℕ)). s ∷ hs) (enough (length t) (length rest) rest (omega (arith, length-drop (size_of s) s)) (omega arith))

-- a record is empty, or a field and what follows it
pub data Split : List ℕ → Type 0 where
  at-end : Split []
  at_field : (b : ℕ) (t : List ℕ) → Split (drop (size_of (b ∷ t)) (b ∷ t)) → Split (b ∷ t)

split_by : (n : ℕ) (s : List ℕ) → length s < n → Split s
split_by zero s h = absurd (omega arith)
split_by (suc n) [] h = at-end
split_by (suc n) (b ∷ t) h = let s = b ∷ t in at_field b t (split_by n (drop (size_of s) s) (omega (arith, length-drop (size_of s) s)))

pub split : (s : List ℕ) → Split s
split s = split_by (suc (length s)) s (omega arith)

-- ---- a step from a position: by what the field there is
abbrev with_next : List ℕ → ℕ → Outcome Field → Outcome (Field × ℕ)
with_next s at o = o ⟫ (λ f. accepted (f, next_at s at))

pub step-found : (s : List ℕ) (at : ℕ) {f : Field} {next : ℕ} → step_at s at ≡ accepted (f, next) → (field_of (drop at s) ≡ accepted f) × (next ≡ next_at s at)
step-found s at {f} {next} e = go (field_of (drop at s)) e
  where
    go : (o : Outcome Field) → with_next s at o ≡ accepted (f, next) → (o ≡ accepted f) × (next ≡ next_at s at)
    go (accepted g) e = let same : ◌≡◌ {A = Field × ℕ} (g, next_at s at) (f, next) = cc in (ap (λ (p : Field × ℕ). accepted p.0) same, sym (ap (λ (p : Field × ℕ). p.1) same))
    go (refused n vs) e = let z : ◌≡◌ {A = ℕ} 0 1 = cc in absurd (omega arith)

pub step-refused : (s : List ℕ) (at : ℕ) {n : ℕ} {vs : List Float} → step_at s at ≡ refused n vs → field_of (drop at s) ≡ refused n vs
step-refused s at {n} {vs} e = go (field_of (drop at s)) e
  where
    go : (o : Outcome Field) → with_next s at o ≡ refused n vs → o ≡ refused n vs
    go (accepted g) e = let z : ◌≡◌ {A = ℕ} 0 1 = cc in absurd (omega arith)
    go (refused m us) e = let same : m ≡ n = cc in let alike : us ≡ vs = cc in cc

-- the position after a field that is whole
module _ (s : List ℕ) (at next : ℕ) (to : next ≡ next_at s at) (whole : size_of (drop at s) ≤ length (drop at s)) where
  pub next-is : next ≡ at + size_of (drop at s)
  unfolding next_at
  next-is = rw (le-leb (size_of (drop at s)) (length (drop at s)) whole) at to

  pub further : (at < next) × (next ≤ length s)
  further = (omega (arith, next-is), omega (arith, next-is, length-drop at s))

  pub after_is : drop (size_of (drop at s)) (drop at s) ≡ drop next s
  after_is = drop-drop (size_of (drop at s)) at s ∙ ap (λ (n : ℕ). drop n s) (sym next-is)
