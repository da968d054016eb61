-- A text in sixteen places that grows at its front: where it stands, and where it no longer fits. Assumes nothing.
use Rattle.arithmetic.proofs.Kit.{◌≡◌, refl, sym, ap, ◌∙◌, Bool, true, false, cond, List, [], ◌∷◌, ◌++◌, append_assoc, ℕ, zero, suc, ◌+◌, ◌-◌, ◌≤◌, ◌<◌, add-one, arith, ltb-true, lt-ltb, le-ltb, ltb, length, set, replicate}
use Rattle.decimals.specs.declared.shown.DecimalText.{DecimalText}
use Rattle.decimals.specs.Places.{too_long, standing, in_sixteen, Before}

pub too_long_lem : (t : List ℕ) → 16 < length t → in_sixteen t ≡ too_long
unfolding in_sixteen
too_long_lem t h = rw (lt-ltb 16 (length t) h)

pub fits : (t : List ℕ) → length t ≤ 16 → in_sixteen t ≡ standing t
unfolding in_sixteen
fits t h = rw (le-ltb 16 (length t) h)

-- the length alone tells whether it fits
pub length-known : (t : List ℕ) → (in_sixteen t).len ≤ 16 → (in_sixteen t).len ≡ length t
unfolding in_sixteen
length-known t = go (ltb 16 (length t))
  where
    go : (b : Bool) → (cond b too_long (standing t)).len ≤ 16 → (cond b too_long (standing t)).len ≡ length t
    go true h = absurd (omega arith)
    go false h = refl

length-long : (t : List ℕ) → 16 ≤ (in_sixteen t).len → 16 ≤ length t
unfolding in_sixteen
length-long t = go (ltb 16 (length t)) refl
  where
    go : (b : Bool) → ltb 16 (length t) ≡ b → 16 ≤ (cond b too_long (standing t)).len → 16 ≤ length t
    go true e h = omega (arith, ltb-true 16 (length t) e)
    go false e h = h

-- the last of the blanks becomes a byte
set-blank : (j : ℕ) (t : List ℕ) (b : ℕ) → set (replicate (suc j) 32 ++ t) j b ≡ replicate j 32 ++ b ∷ t
set-blank zero t b = refl
set-blank (suc j) t b = ap (λ (l : List ℕ). 32 ∷ l) (set-blank j t b)

abbrev longer : DecimalText → ℕ → DecimalText
longer text b = record { bytes = set text.bytes (15 - text.len) b; len = text.len + 1 }

standing-longer : (t : List ℕ) (b : ℕ) → length t < 16 → longer (standing t) b ≡ standing (b ∷ t)
standing-longer t b h =
    let blanks : 16 - length t ≡ suc (15 - length t) = omega arith in
    let left : 15 - length t ≡ 16 - suc (length t) = omega arith in
    let bytes : set (replicate (16 - length t) 32 ++ t) (15 - length t) b ≡ replicate (16 - suc (length t)) 32 ++ b ∷ t =
    ap (λ (n : ℕ). set (replicate n 32 ++ t) (15 - length t) b) blanks ∙ set-blank (15 - length t) t b ∙ ap (λ (n : ℕ). replicate n 32 ++ b ∷ t) left in
    λ i. record { bytes = bytes i; len = add-one (length t) i }

module _ (text : DecimalText) (t : List ℕ) (b : ℕ) (is : text ≡ in_sixteen t) where
  pub placed : text.len < 16 → longer text b ≡ in_sixteen (b ∷ t)
  placed h =
      let known : (in_sixteen t).len < 16 = rw (← is) h in
      let short : length t < 16 = omega (arith, length-known t (omega arith)) in
      ap (λ (x : DecimalText). longer x b) (is ∙ fits t (omega arith)) ∙ standing-longer t b short ∙ sym (fits (b ∷ t) short)

  pub overflown : 16 ≤ text.len → too_long ≡ in_sixteen (b ∷ t)
  overflown h =
      let known : 16 ≤ (in_sixteen t).len = rw (← is) h in
      sym (too_long_lem (b ∷ t) (omega (arith, length-long t known)))

-- ---- one piece before another
pub no_more : (text : DecimalText) → Before text [] text
no_more text = record { stands = λ t e. e }

pub and_before : {a b c : DecimalText} {xs ys : List ℕ} → Before a xs b → Before b ys c → Before a (ys ++ xs) c
and_before {xs = xs} {ys = ys} f g = record { stands = λ t e. g.stands (xs ++ t) (f.stands t e) ∙ ap in_sixteen (sym (append_assoc ys xs t)) }

pub same_more : {a b : DecimalText} {xs ys : List ℕ} → xs ≡ ys → Before a xs b → Before a ys b
same_more e f = record { stands = λ t h. f.stands t h ∙ ap (λ (l : List ℕ). in_sixteen (l ++ t)) e }
