-- What a double between bounds is not changed by. Assumes nothing.
use Rattle.exact.proofs.Kit.{◌≡◌, refl, ap, ◌∙◌, Bool, true, false, ◌||◌, cond, T, Float, lt, le, not_le-of-less}
use Rattle.arithmetic.specs.Doubles.{clamp_double}

pub taken : {A : Type 0} (a b : A) (c : Bool) → T c → cond c a b ≡ a
taken a b true h = refl
taken a b false h = absurd h

pub taken_or : {A : Type 0} (x y : A) (b c : Bool) → T c → cond (b || c) x y ≡ x
taken_or x y true c h = refl
taken_or x y false c h = taken x y c h

pub not_taken : {A : Type 0} (a b : A) (c : Bool) → (T c → ⊥) → cond c a b ≡ b
not_taken a b true h = absurd (h tt)
not_taken a b false h = refl

pub clamp_kept : (x lo hi : Float) → T (le lo x) → T (le x hi) → clamp_double x lo hi ≡ x
clamp_kept x lo hi low high =
    ap (λ (y : Float). cond (lt hi y) hi y) (not_taken lo x (lt x lo) (λ (l : T (lt x lo)). not_le-of-less x lo l low)) ∙ not_taken hi x (lt hi x) (λ (l : T (lt hi x)). not_le-of-less hi x l high)
