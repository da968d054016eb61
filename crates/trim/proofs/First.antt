-- The first of some changes that gives another class: change by change, and one list after the other. Assumes nothing.
use Rattle.std.specs.Prelude.{None, Some}
use Rattle.std.proofs.Common.{true≢false}
use Rattle.trim.proofs.Kit.{◌≡◌, true, false, refl, sym, ap, ◌∙◌, List, [], ◌∷◌, ◌++◌, ℕ, suc, ◌+◌, ◌-◌, ◌≤◌, arith, Change, Turn, Option, Start, is_some, tried, changes_of, changes_from, or_else, first_of}

-- a change that is found, or none
pub found_first : (f later : Option Turn) → is_some f ≡ true → or_else f later ≡ f
found_first (Some t) later e = refl
found_first None later e = absurd (true≢false (sym e))

pub found_later : (f later : Option Turn) → is_some f ≡ false → or_else f later ≡ later
found_later (Some t) later e = absurd (true≢false e)
found_later None later e = refl

or_else-assoc : (f g h : (Option Turn)) → or_else (or_else f g) h ≡ or_else f (or_else g h)
or_else-assoc (Some t) g h = refl
or_else-assoc None g h = refl

pub first-append : (s : Start) (xs ys : List Change) → first_of s (xs ++ ys) ≡ or_else (first_of s xs) (first_of s ys)
unfolding first_of
first-append s [] ys = refl
first-append s (x ∷ xs) ys = ap (or_else (tried s x)) (first-append s xs ys) ∙ sym (or_else-assoc (tried s x) (first_of s xs) (first_of s ys))

-- ---- the first of the counts from k to 200
abbrev pub from : Start → ℕ → Option Turn
from s k = first_of s (changes_from (201 - k) k)

pub by_count : (s : Start) (k : ℕ) {f : Option Turn} → k ≤ 200 → first_of s (changes_of k) ≡ f → from s k ≡ or_else f (from s (k + 1))
unfolding changes_from
by_count s k {f} h e =
    let next : k + 1 ≡ suc k = omega arith in
    let left : 201 - k ≡ suc (201 - (k + 1)) = omega arith in
    ap (λ (n : ℕ). first_of s (changes_from n k)) left
    ∙ first-append s (changes_of k) (changes_from (201 - (k + 1)) (suc k))
    ∙ ap (λ (f : Option Turn). or_else f (first_of s (changes_from (201 - (k + 1)) (suc k)))) e
    ∙ ap (λ (n : ℕ). or_else f (first_of s (changes_from (201 - (k + 1)) n))) (sym next)
