-- Words are the same byte by byte. Assumes nothing.
use Rattle.arithmetic.proofs.Kit.{◌≡◌, refl, sym, ap, ap₂, ◌∙◌, Bool, true, false, ◌&&◌, true≢false, List, [], ◌∷◌, ℕ, eqb-true, eq-eqb, eqb}
use lib.Pointwise.{pointwise}
use Rattle.pages.specs.Characters.{same}

pub both : (a b : Bool) → (a && b) ≡ true → (a ≡ true) × (b ≡ true)
both true b h = (refl, h)
both false b h = absurd (true≢false (sym h))

pub is_same : (w n : List ℕ) → same w n ≡ true → w ≡ n
is_same [] [] h = refl
is_same [] (b ∷ n) h = absurd (true≢false (sym h))
is_same (a ∷ w) [] h = absurd (true≢false (sym h))
is_same (a ∷ w) (b ∷ n) h = let k = both (eqb a b) (same w n) h in ap₂ (λ (x : ℕ) (l : List ℕ). x ∷ l) (eqb-true a b k.0) (is_same w n k.1)

pub same_self : (w : List ℕ) → same w w ≡ true
same_self [] = refl
same_self (a ∷ w) = rw (eq-eqb a a refl) (same_self w)

-- what the code's comparison of w and n promises of its answer
abbrev pub Compared : List ℕ → List ℕ → Bool → Type 0
Compared w n r = (r ≡ true → w ≡ n) × (w ≡ n → r ≡ true)

pub compared : (w n : List ℕ) (r : Bool) → Compared w n r → same w n ≡ r
compared w n true h = ap (same w) (sym (h.0 refl)) ∙ same_self w
compared w n false h = go (same w n) refl
  where
    go : (b : Bool) → same w n ≡ b → b ≡ false
    go true e = sym (h.1 (is_same w n e))
    go false e = refl

-- what the library's comparison of w and n answers
pub same_is : (w n : List ℕ) → same w n ≡ pointwise eqb w n
same_is [] [] = refl
same_is [] (b ∷ n) = refl
same_is (a ∷ w) [] = refl
same_is (a ∷ w) (b ∷ n) = ap (λ (t : Bool). eqb a b && t) (same_is w n)
