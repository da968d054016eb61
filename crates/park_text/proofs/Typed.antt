-- A word on a page byte by byte. Assumes nothing.
use Rattle.arithmetic.proofs.Kit.{◌≡◌, refl, sym, ap, ◌∙◌, List, [], ◌∷◌, ◌++◌, append_assoc, append-nil, ℕ, ◌+◌, ◌<◌, add-one, length, take, get_or}
use lib.Seq.{take-suc}
use Rattle.park_text.specs.ParkLines.{byte_with, typed_with}

module _ (old : ℕ) (new : List ℕ) where
  typed_append : (s t : List ℕ) → typed_with old new (s ++ t) ≡ typed_with old new s ++ typed_with old new t
  unfolding typed_with
  typed_append [] t = refl
  typed_append (b ∷ s) t =
      ap (λ (l : List ℕ). byte_with old new b ++ l) (typed_append s t) ∙ sym (append_assoc (byte_with old new b) (typed_with old new s) (typed_with old new t))

  typed_one : (b : ℕ) → typed_with old new (b ∷ []) ≡ byte_with old new b
  unfolding typed_with
  typed_one b = append-nil (byte_with old new b)

  pub typed_more : (s : List ℕ) (i : ℕ) → i < length s → typed_with old new (take (i + 1) s) ≡ typed_with old new (take i s) ++ byte_with old new (get_or s i 0)
  typed_more s i h =
      rw (add-one, take-suc s i 0 h) (typed_append (take i s) (get_or s i 0 ∷ []) ∙ ap (λ (l : List ℕ). typed_with old new (take i s) ++ l) (typed_one (get_or s i 0)))

  pub typed_none : typed_with old new [] ≡ []
  unfolding typed_with
  typed_none = refl

pub ruleset typed_bytes = (typed_more, typed_none)
