-- The words of a line are the parts between blanks that the library gives. Assumes nothing.
use Rattle.arithmetic.proofs.Kit.{◌≡◌, refl, ap, ◌∙◌, Bool, true, false, cond, List, [], ◌∷◌, ℕ, eqb, get_or}
use Rattle.std.specs.List.{slice_split, slice_get, onto_first}
use Rattle.std.specs.Prelude.{Option, Some, None}
use Rattle.std.specs.Option.{option_map, unwrap_or}
use Rattle.std.proofs.lemmas.Option.{unwrap_or-slice_get}
use denote.Ref.{Bor}
use Rattle.questions.specs.Words.{before_part, line_parts}

pub parts : (s : List ℕ) → slice_split (λ b. eqb b 32) s ≡ line_parts s
unfolding line_parts
parts [] = refl
parts (b ∷ s) = go (eqb b 32) (slice_split (λ x. eqb x 32) s) ∙ ap (before_part (eqb b 32) b) (parts s)
  where
    go : (t : Bool) (ws : List (List ℕ)) → cond t ([] ∷ ws) (onto_first b ws) ≡ before_part t b ws
    go true ws = refl
    go false [] = refl
    go false (w ∷ ws) = refl

-- the bytes of a part that may be missing
pub nth_or : (ws : List (List ℕ)) (n : ℕ) (r : Option (Bor (List ℕ))) (d : Bor (List ℕ)) {w : Bor (List ℕ)} → d.now ≡ [] → option_map (λ x. x.now) r ≡ slice_get ws n
    → w ≡ unwrap_or r d → w.now ≡ get_or ws n []
nth_or ws n r d empty e f = ap (λ (b : Bor (List ℕ)). b.now) f ∙ go r e ∙ unwrap_or-slice_get ws n []
  where
    go : (o : Option (Bor (List ℕ))) → option_map (λ x. x.now) o ≡ slice_get ws n → (unwrap_or o d).now ≡ unwrap_or (slice_get ws n) []
    go None h = empty ∙ ap (λ (o : Option (List ℕ)). unwrap_or o []) h
    go (Some x) h = ap (λ (o : Option (List ℕ)). unwrap_or o []) h
